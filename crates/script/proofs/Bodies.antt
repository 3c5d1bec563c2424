-- A record's length and fields, as the reader takes them from the bytes.
use Rattle.std.proofs.Common.{◌≡◌, ℕ, ◌+◌, ◌-◌, ◌*◌, ◌≤◌, true, leb, List, [], ◌∷◌, length, get_or, take, drop, Ok, ap, arith}
use Rattle.std.specs.Int.Digits.{number_from_digits}
use Rattle.std.proofs.lemmas.List.{get_or_past}
use Rattle.std.proofs.lemmas.Bool.{le-leb}
use Rattle.script.specs.declared.mark.Mark.{Mark}
use Rattle.script.specs.declared.mark.Mark.TheVariants as mark
use Rattle.script.specs.Records.{Record, opening, write, size_of, whole, body, numbers}

-- a write without its count
pub size-short : (m : Mark) (bs : List ℕ) → m ≡ mark.Write → length bs ≤ 2 → 3 ≡ size_of m bs
size-short m bs is short = let past = get_or_past bs 2 0 short in let at = ap (λ k. size_of k bs) is in omega (arith, past, at)

-- all bytes are there
pub body-whole : (m : Mark) (bs : List ℕ) (size : ℕ) (r : Record) → size ≡ size_of m bs → size ≤ length bs → r ≡ whole m bs
    → Ok (r, size) ≡ body m bs
body-whole m bs size r is fits same =
    let test : leb (size_of m bs) (length bs) ≡ true = le-leb (size_of m bs) (length bs) (omega arith) in
    rw test cc

two_bytes : (bs : List ℕ) → 4 ≤ length bs → get_or bs 2 0 * 256 + get_or bs 3 0 ≡ number_from_digits 256 (take 2 (drop 2 bs))
two_bytes [] h = absurd (omega arith)
two_bytes (a ∷ []) h = absurd (omega arith)
two_bytes (a ∷ b ∷ []) h = absurd (omega arith)
two_bytes (a ∷ b ∷ c ∷ []) h = absurd (omega arith)
two_bytes (a ∷ b ∷ c ∷ d ∷ rest) h = omega arith

module _ (m : Mark) (bs : List ℕ) where
  pub opening-whole : (n : ℕ) → m ≡ mark.Opening → 4 ≤ length bs → n ≡ get_or bs 2 0 * 256 + get_or bs 3 0 → opening n ≡ whole m bs
  opening-whole n is h e = let two = two_bytes bs h in cc

  pub write-whole : (size : ℕ) → m ≡ mark.Write → size ≡ size_of m bs → write (numbers (take (size - 3) (drop 3 bs))) ≡ whole m bs
  write-whole size is e =
      let at : size_of m bs ≡ 3 + 4 * get_or bs 2 0 = ap (λ k. size_of k bs) is in
      let count : size - 3 ≡ 4 * get_or bs 2 0 = omega arith in
      cc
