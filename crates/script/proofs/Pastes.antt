-- Texts written one behind another, and how long a written number is.
use Rattle.std.proofs.Common.{◌≡◌, ℕ, ◌+◌, ◌/◌, ◌%◌, ◌^◌, ◌<◌, ◌≤◌, List, [], ◌∷◌, ◌++◌, length, decimal, refl, ap, ◌∙◌, arith, length-append}
use lib.Seq.{paste}
use Rattle.std.proofs.lemmas.Fmt.{decimal_digit, decimal_step}
use Rattle.std.proofs.lemmas.List.Edits.{paste-paste}

pub length-one : (n : ℕ) → n < 10 → length (decimal n) ≡ 1
length-one n h = ap length (decimal_digit n h)

pub length-step : (n : ℕ) → 10 ≤ n → n < 2 ^ 64 → length (decimal n) ≡ length (decimal (n / 10)) + 1
length-step n h f = ap length (decimal_step n h f) ∙ length-append (decimal (n / 10)) ((48 + n % 10) ∷ [])

-- a text right behind another is both in one
pub paste_then : (d s t : List ℕ) (at p n : ℕ) → at ≤ length d → p ≡ at + length s → n ≡ length t
    → paste (paste d at s (length s)) p t n ≡ paste d at (s ++ t) (length (s ++ t))
paste_then d s t at p n low is all =
    let both : paste (paste d at s (length s)) (at + length s) t n ≡ paste d at (s ++ t) (length s + n) = paste-paste d at s t (length s) n refl all low in
    let long : length s + n ≡ length (s ++ t) = simp length-append (omega arith) in
    cc

-- the same of an output that is changed step by step
pub put_then : (d o o' s t text : List ℕ) (at p n : ℕ) → at ≤ length d → p ≡ at + length s → n ≡ length t
    → o ≡ paste d at s (length s) → o' ≡ paste o p t n → text ≡ s ++ t → o' ≡ paste d at text (length text)
put_then d o o' s t text at p n low is all one two e = let both = paste_then d s t at p n low is all in cc
