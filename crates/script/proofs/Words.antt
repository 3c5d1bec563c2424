-- Numbers of four bytes each.
use Rattle.std.proofs.Common.{◌≡◌, ℕ, ◌+◌, ◌-◌, ◌*◌, ◌/◌, ◌≤◌, List, [], ◌∷◌, length, get_or, take, drop, refl, arith}
use Rattle.std.specs.Int.Digits.{number_from_digits}
use Rattle.std.proofs.lemmas.List.{take_rest}
use Rattle.script.specs.Records.{numbers}

pub length-numbers : (bs : List ℕ) → length bs / 4 ≡ length (numbers bs)
length-numbers [] = refl
length-numbers (a ∷ []) = refl
length-numbers (a ∷ b ∷ []) = refl
length-numbers (a ∷ b ∷ c ∷ []) = refl
length-numbers (a ∷ b ∷ c ∷ d ∷ rest) = let e = length-numbers rest in omega arith

four_bytes : (a b c d : ℕ) → number_from_digits 256 (a ∷ b ∷ c ∷ d ∷ []) ≡ a * 16777216 + b * 65536 + c * 256 + d
four_bytes a b c d = omega arith

-- the first number, and the rest
pub numbers-next : (bs first : List ℕ) → 4 ≤ length bs → first ≡ take 4 bs
    → numbers bs ≡ (get_or first 0 0 * 16777216 + get_or first 1 0 * 65536 + get_or first 2 0 * 256 + get_or first 3 0) ∷ numbers (take (length bs - 4) (drop 4 bs))
numbers-next [] first h is = absurd (omega arith)
numbers-next (a ∷ []) first h is = absurd (omega arith)
numbers-next (a ∷ b ∷ []) first h is = absurd (omega arith)
numbers-next (a ∷ b ∷ c ∷ []) first h is = absurd (omega arith)
numbers-next (a ∷ b ∷ c ∷ d ∷ rest) first h is =
    let e = four_bytes a b c d in
    let all = take_rest (a ∷ b ∷ c ∷ d ∷ rest) 4 in
    cc
