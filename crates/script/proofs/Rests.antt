-- The records from a place on, one record at a time.
use Rattle.std.proofs.Common.{◌≡◌, ℕ, zero, suc, ◌+◌, ◌-◌, ◌<◌, ◌≤◌, Bool, true, false, cond, eqb, ltb, leb, List, [], ◌∷◌, length, take, drop, Some, None, Ok, Err, Option, Result, refl, ap, ◌∙◌, subst, inl, inr, arith}
use Rattle.std.specs.Result.{result_err}
use Rattle.std.proofs.lemmas.List.{length-drop}
use Rattle.std.proofs.lemmas.Bool.{cases_lt, cond_both, le-leb, lt-leb, leb-true}
use Rattle.script.specs.declared.mark.Mark.{Mark}
use Rattle.script.specs.declared.mark.Mark.TheVariants as mark
use Rattle.script.specs.Marks.{mark_of}
use Rattle.script.specs.Records.{Record, size_of, whole, body, marked, opens, record_at, record_of, before, onward, records_from, rest_of}

two_at_least : (m : Mark) (bs : List ℕ) → 2 ≤ size_of m bs
two_at_least mark.Opening bs = omega arith
two_at_least mark.Register bs = omega arith
two_at_least mark.WouldWrite bs = omega arith
two_at_least mark.Write bs = omega arith
two_at_least mark.Read bs = omega arith
two_at_least mark.Close bs = omega arith

-- a record that is read has two bytes or more, all of which are there
abbrev pub Sized : List ℕ → Result (Record × ℕ) ℕ → Type 0
Sized bs (Ok found) = (2 ≤ found.1) × (found.1 ≤ length bs)
Sized bs (Err fault) = Unit {0}

sized_body : (m : Mark) (bs : List ℕ) → Sized bs (body m bs)
sized_body m bs =
    cond_both (leb (size_of m bs) (length bs)) (Ok (whole m bs, size_of m bs)) (Err 15) (Sized bs)
    (λ e. (two_at_least m bs, leb-true (size_of m bs) (length bs) e)) (λ e. tt)

sized_marked : (m : Option Mark) (bs : List ℕ) → Sized bs (marked m bs)
sized_marked (Some m) bs = sized_body m bs
sized_marked None bs = cond_both (ltb (length bs) 2) (Err 15) (Err 14) (Sized bs) (λ e. tt) (λ e. tt)

sized_at : (first : Bool) (bs : List ℕ) → Sized bs (record_at first bs)
sized_at true bs =
    cond_both (opens bs) (marked (mark_of (take 2 bs)) bs) (Err 13) (Sized bs) (λ e. sized_marked (mark_of (take 2 bs)) bs) (λ e. tt)
sized_at false bs =
    cond_both (opens bs) (Err 13) (marked (mark_of (take 2 bs)) bs) (Sized bs) (λ e. tt) (λ e. sized_marked (mark_of (take 2 bs)) bs)

-- the next record begins within the script or at its end
pub sized_of : (script : List ℕ) (at : ℕ) (found : Record × ℕ) → record_of script at ≡ Ok found → (2 ≤ found.1) × (at + found.1 ≤ length script)
sized_of script at found is =
    let size : Sized (drop at script) (Ok found) = subst (Sized (drop at script)) is (sized_at (eqb at 0) (drop at script)) in
    let left = length-drop at script in
    (size.0, omega arith)

-- only what follows the next record matters
onward-same : (script : List ℕ) (at : ℕ) (r : Result (Record × ℕ) ℕ) (f g : ℕ → Result (List (ℕ × Record)) (ℕ × ℕ))
    → ((found : Record × ℕ) → r ≡ Ok found → at + found.1 < length script → f (at + found.1) ≡ g (at + found.1))
    → onward script at r f ≡ onward script at r g
onward-same script at (Err fault) f g h = refl
onward-same script at (Ok found) f g h =
    elim (cases_lt (at + found.1) (length script)) [
      | inl more ↦ let next = h found refl more in ap (λ rest. before at found.0 (cond (leb (length script) (at + found.1)) (Ok []) rest)) next
      | inr all ↦ let test = le-leb (length script) (at + found.1) all in rw test
    ]

-- any bound does that is above the bytes left
enough : (b b' : ℕ) (script : List ℕ) (at : ℕ) → at ≤ length script → length script < at + b → length script < at + b' → records_from b script at ≡ records_from b' script at
enough zero b' script at low h h' = absurd (omega arith)
enough (suc b) zero script at low h h' = absurd (omega arith)
enough (suc b) (suc b') script at low h h' =
    onward-same script at (record_of script at) (records_from b script) (records_from b' script)
    (λ found is more. let size = sized_of script at found is in enough b b' script (at + found.1) (omega arith) (omega arith) (omega arith))

-- the record at a place, and then the rest
pub rest_is : (script : List ℕ) (at : ℕ) → at ≤ length script → rest_of script at ≡ onward script at (record_of script at) (rest_of script)
rest_is script at low =
    let bound : length script + 1 - at ≡ suc (length script - at) = omega arith in
    ap (λ b. records_from b script at) bound
    ∙ onward-same script at (record_of script at) (records_from (length script - at) script) (rest_of script)
    (λ found is more. let size = sized_of script at found is in enough (length script - at) (length script + 1 - (at + found.1)) script (at + found.1) (omega arith) (omega arith) (omega arith))

pub rest_fault : (script : List ℕ) (at fault : ℕ) → at ≤ length script → record_of script at ≡ Err fault → rest_of script at ≡ Err (fault, at)
rest_fault script at fault low is = rest_is script at low ∙ ap (λ r. onward script at r (rest_of script)) is

pub rest_more : (script : List ℕ) (at : ℕ) (found : Record × ℕ) → at ≤ length script → record_of script at ≡ Ok found → at + found.1 < length script
    → rest_of script at ≡ before at found.0 (rest_of script (at + found.1))
rest_more script at found low is more =
    let test = lt-leb (length script) (at + found.1) more in
    rest_is script at low ∙ (ap (λ r. onward script at r (rest_of script)) is ∙ rw test)

pub rest_last : (script : List ℕ) (at : ℕ) (found : Record × ℕ) → at ≤ length script → record_of script at ≡ Ok found → length script ≤ at + found.1
    → rest_of script at ≡ Ok ((at, found.0) ∷ [])
rest_last script at found low is all =
    let test = le-leb (length script) (at + found.1) all in
    rest_is script at low ∙ (ap (λ r. onward script at r (rest_of script)) is ∙ rw test)

-- faults are passed through
pub fault-before : (at : ℕ) (r : Record) (m : Result (List (ℕ × Record)) (ℕ × ℕ)) → result_err (before at r m) ≡ result_err m
fault-before at r (Ok rest) = refl
fault-before at r (Err fault) = refl

pub fails : (m : Result (List (ℕ × Record)) (ℕ × ℕ)) (f : ℕ × ℕ) → result_err m ≡ Some f → m ≡ Err f
fails (Ok rest) f e = let z : ◌≡◌ {A = ℕ} 0 1 = cc in absurd (omega arith)
fails (Err fault) f e = cc
