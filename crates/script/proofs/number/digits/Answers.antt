use Rattle.std.proofs.Common.{◌≡◌, ℕ, zero, suc, ◌*◌, ◌/◌, ◌^◌, ◌<◌, ◌≤◌, length, decimal, arith}
use Rattle.std.proofs.Math.Nat.{pow-suc}
use Rattle.std.proofs.lemmas.Fmt.{length-decimal-le, decimal_nonempty}
use Rattle.script.proofs.Pastes.{length-one, length-step}
use Rattle.script.proofs.number.digits.Goals as goal

ten_power : (k : ℕ) → 0 < 10 ^ k
ten_power zero = omega arith
ten_power (suc k) = omega (arith, pow-suc 10 k, ten_power k)

-- a number is longer than the power of ten that it reaches
length-from : (k n : ℕ) → 10 ^ k ≤ n → n < 2 ^ 64 → k < length (decimal n)
length-from zero n h f = decimal_nonempty n f
length-from (suc k) n h f =
    let power : 10 ^ suc k ≡ 10 ^ k * 10 = pow-suc 10 k in
    let some = ten_power k in
    let rest = length-from k (n / 10) (omega arith) (omega arith) in
    omega (arith, length-step n (omega arith) f)

pub returns-then-n-lt10-clause-value : goal.returns-then-n-lt10-clause-value
returns-then-n-lt10-clause-value c = omega (arith, length-one c.args.n c.if-n-lt10.true)

pub returns-else-n-lt10-clause-value : goal.returns-else-n-lt10-clause-value
returns-else-n-lt10-clause-value c =
    let k = c.ilog10.result in
    let f : c.args.n < 2 ^ 64 = omega arith in
    let most = length-decimal-le (suc k) c.args.n (omega arith) (omega (arith, pow-suc 10 k, c.ilog10.ensures.next_power_gt)) f in
    let least = length-from k c.args.n c.ilog10.ensures.power_le f in
    omega arith
