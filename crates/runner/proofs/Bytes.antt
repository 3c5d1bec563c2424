-- The numbers of a script's records fit 64 bits, as its bytes are below 256.
use Rattle.std.proofs.Common.{◌≡◌, ℕ, zero, suc, ◌+◌, ◌-◌, ◌*◌, ◌<◌, Bool, true, false, cond, eqb, ltb, leb, List, [], ◌∷◌, length, get_or, take, drop, Some, None, Ok, Err, Option, Result, subst, arith, length-take}
use Rattle.std.specs.List.{AllByRecursion}
use Rattle.std.specs.Int.Digits.{number_from_digits}
use Rattle.script.proofs.Each.{All-take, All-drop}
use Rattle.std.proofs.lemmas.Bool.{cond_both}
use Rattle.script.specs.declared.mark.Mark.{Mark}
use Rattle.script.specs.declared.mark.Mark.TheVariants as mark
use Rattle.script.specs.Marks.{mark_of}
use Rattle.script.specs.Records.{Record, numbers, size_of, whole, body, marked, opens, record_at, record_of, before, onward, records_from, meaning}
use Rattle.script.proofs.Words.{length-numbers}
use Rattle.runner.proofs.Fits.{Small, Fit}

abbrev pub Byte : ℕ → Type 0
Byte b = b < 256

byte_at : (bs : List ℕ) (i : ℕ) → AllByRecursion Byte bs → get_or bs i 0 < 256
byte_at [] zero h = omega arith
byte_at [] (suc i) h = omega arith
byte_at (b ∷ bs) zero h = h.0
byte_at (b ∷ bs) (suc i) h = byte_at bs i h.1

small_two : (bs : List ℕ) → AllByRecursion Byte bs → Small (number_from_digits 256 (take 2 bs))
small_two [] h = omega arith
small_two (a ∷ []) h = let low = h.0 in omega arith
small_two (a ∷ b ∷ bs) h = let low = h.0 in let next = h.1.0 in omega arith

small_numbers : (bs : List ℕ) → AllByRecursion Byte bs → AllByRecursion Small (numbers bs)
small_numbers [] h = tt
small_numbers (a ∷ []) h = tt
small_numbers (a ∷ b ∷ []) h = tt
small_numbers (a ∷ b ∷ c ∷ []) h = tt
small_numbers (a ∷ b ∷ c ∷ d ∷ bs) h =
    let p = h.0 in
    let q = h.1.0 in
    let r = h.1.1.0 in
    let s = h.1.1.1.0 in
    (omega arith, small_numbers bs h.1.1.1.1)

few-numbers : (n : ℕ) (bs : List ℕ) → n < 256 → Small (length (numbers (take (4 * n) bs)))
few-numbers n bs low =
    let many = length-numbers (take (4 * n) bs) in
    let long = length-take (4 * n) bs in
    omega arith

whole-fits : (m : Mark) (bs : List ℕ) → AllByRecursion Byte bs → Fit (whole m bs)
whole-fits mark.Opening bs h = small_two (drop 2 bs) (All-drop Byte 2 bs h)
whole-fits mark.Register bs h = tt
whole-fits mark.WouldWrite bs h = tt
whole-fits mark.Write bs h =
    (few-numbers (get_or bs 2 0) (drop 3 bs) (byte_at bs 2 h), small_numbers (take (4 * get_or bs 2 0) (drop 3 bs)) (All-take Byte (4 * get_or bs 2 0) (drop 3 bs) (All-drop Byte 3 bs h)))
whole-fits mark.Read bs h = let low = byte_at bs 2 h in omega arith
whole-fits mark.Close bs h = let low = byte_at bs 2 h in omega arith

abbrev Found : Result (Record × ℕ) ℕ → Type 0
Found (Ok found) = Fit found.0
Found (Err fault) = Unit {0}

body-fits : (m : Mark) (bs : List ℕ) → AllByRecursion Byte bs → Found (body m bs)
body-fits m bs h =
    cond_both (leb (size_of m bs) (length bs)) (Ok (whole m bs, size_of m bs)) (Err 15) Found (λ e. whole-fits m bs h) (λ e. tt)

marked-fits : (m : Option Mark) (bs : List ℕ) → AllByRecursion Byte bs → Found (marked m bs)
marked-fits (Some m) bs h = body-fits m bs h
marked-fits None bs h = cond_both (ltb (length bs) 2) (Err 15) (Err 14) Found (λ e. tt) (λ e. tt)

at_fits : (first : Bool) (bs : List ℕ) → AllByRecursion Byte bs → Found (record_at first bs)
at_fits true bs h = cond_both (opens bs) (marked (mark_of (take 2 bs)) bs) (Err 13) Found (λ e. marked-fits (mark_of (take 2 bs)) bs h) (λ e. tt)
at_fits false bs h = cond_both (opens bs) (Err 13) (marked (mark_of (take 2 bs)) bs) Found (λ e. tt) (λ e. marked-fits (mark_of (take 2 bs)) bs h)

abbrev Read : Result (List (ℕ × Record)) (ℕ × ℕ) → Type 0
Read (Ok records) = AllByRecursion (λ r. Fit r.1) records
Read (Err fault) = Unit {0}

before-fits : (at : ℕ) (r : Record) (m : Result (List (ℕ × Record)) (ℕ × ℕ)) → Fit r → Read m → Read (before at r m)
before-fits at r (Ok rest) fit more = (fit, more)
before-fits at r (Err fault) fit more = tt

onward-fits : (script : List ℕ) (at : ℕ) (r : Result (Record × ℕ) ℕ) (from : ℕ → Result (List (ℕ × Record)) (ℕ × ℕ)) → Found r → ((n : ℕ) → Read (from n))
    → Read (onward script at r from)
onward-fits script at (Err fault) from fit more = tt
onward-fits script at (Ok found) from fit more =
    before-fits at found.0 (cond (leb (length script) (at + found.1)) (Ok []) (from (at + found.1))) fit
    (cond_both (leb (length script) (at + found.1)) (Ok []) (from (at + found.1)) Read (λ e. tt) (λ e. more (at + found.1)))

records-fit : (most : ℕ) (script : List ℕ) (at : ℕ) → AllByRecursion Byte script → Read (records_from most script at)
records-fit zero script at h = tt
records-fit (suc most) script at h =
    onward-fits script at (record_of script at) (records_from most script)
    (at_fits (eqb at 0) (drop at script) (All-drop Byte at script h)) (λ n. records-fit most script n h)

pub meaning-fits : (script : List ℕ) (records : List (ℕ × Record)) → AllByRecursion Byte script → meaning script ≡ Ok records → AllByRecursion (λ r. Fit r.1) records
meaning-fits script records h is = subst Read is (records-fit (length script + 1 - 0) script 0 h)
