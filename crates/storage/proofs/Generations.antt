-- Generations, round 2 to the 64th.
use Rattle.std.proofs.Common.{◌≡◌, ℕ, ◌+◌, ◌-◌, ◌%◌, ◌^◌, ◌<◌, ◌≤◌, ◌≢◌, ◌∙◌, ⊎_elim, mod-eq_of_lt, arith}
use native.Mathlib.Nat.{mod-eq-sub-mod}
use Rattle.std.proofs.lemmas.Bool.{cases_lt}
use Rattle.storage.specs.Kept.{lag}
use Rattle.storage.proofs.Storing.{next-wraps}

-- the lag, without a remainder
lag-below : (g r : ℕ) → g < r → r < 2 ^ 64 → lag g r ≡ g + 2 ^ 64 - r
lag-below g r h k = let less : g + 2 ^ 64 - r < 2 ^ 64 = omega arith in mod-eq_of_lt less

lag-above : (g r : ℕ) → r ≤ g → g < 2 ^ 64 → lag g r ≡ g - r
lag-above g r h k =
    let more : 2 ^ 64 ≤ g + 2 ^ 64 - r = omega arith in
    let less : g + 2 ^ 64 - r - 2 ^ 64 < 2 ^ 64 = omega arith in
    mod-eq-sub-mod more ∙ mod-eq_of_lt less ∙ omega arith

-- one generation more is one more to lag behind, while it does not come round
pub lag-raised : (g r : ℕ) → g < 2 ^ 64 → r < 2 ^ 64 → lag g r + 1 < 2 ^ 64 → lag ((g + 1) % 2 ^ 64) r ≡ lag g r + 1
lag-raised g r a b c =
    ⊎_elim
    (λ (below : g < r).
    let was = lag-below g r below b in
    let less : g + 1 < r = omega arith in
    let inner : g + 1 < 2 ^ 64 = omega arith in
    rw (mod-eq_of_lt inner) (lag-below (g + 1) r less b ∙ omega arith))
    (λ (above : r ≤ g). ⊎_elim
    (λ (inner : g + 1 < 2 ^ 64).
    let was = lag-above g r above a in
    let more : r ≤ g + 1 = omega arith in
    rw (mod-eq_of_lt inner) (lag-above (g + 1) r more inner ∙ omega arith))
    (λ (wraps : 2 ^ 64 ≤ g + 1).
    let was = lag-above g r above a in
    let same : g + 1 ≡ 2 ^ 64 = omega arith in
    let some : 0 < r = omega arith in
    rw (next-wraps (2 ^ 64) g same) (lag-below 0 r some b ∙ omega arith))
    (cases_lt (g + 1) (2 ^ 64)))
    (cases_lt g r)

pub lag-none : (g : ℕ) → g < 2 ^ 64 → lag g g ≡ 0
lag-none g h = lag-above g g (omega arith) h ∙ omega arith

pub raised-apart : (g r : ℕ) → g < 2 ^ 64 → r < 2 ^ 64 → lag g r + 1 < 2 ^ 64 → r ≢ (g + 1) % 2 ^ 64
raised-apart g r a b c e =
    ⊎_elim
    (λ (inner : g + 1 < 2 ^ 64).
    let is : r ≡ g + 1 = e ∙ mod-eq_of_lt inner in
    let less : g < r = omega arith in
    omega (arith, lag-below g r less b))
    (λ (wraps : 2 ^ 64 ≤ g + 1).
    let same : g + 1 ≡ 2 ^ 64 = omega arith in
    let is : r ≡ 0 = e ∙ next-wraps (2 ^ 64) g same in
    let more : r ≤ g = omega arith in
    omega (arith, lag-above g r more a))
    (cases_lt (g + 1) (2 ^ 64))
