-- The records drawn one after another, and those that are left.
use Rattle.std.proofs.Common.{◌≡◌, ℕ, ◌+◌, ◌-◌, ◌<◌, ◌≤◌, cond, leb, List, [], length, Some, None, Ok, Err, Option, Result, IfSome, sym, refl, ap, ◌∙◌, subst, inl, inr, arith}
use Rattle.std.proofs.lemmas.Bool.{cases_lt, cond_both, le-leb, lt-leb}
use Rattle.source.specs.Faults.{number_of}
use Rattle.script.specs.declared.check.ScriptFault.{ScriptFault}
use Rattle.script.specs.declared.record.Record.{Record as Parsed}
use Rattle.script.specs.declared.records.Records.{Records}
use Rattle.script.specs.Parsed.{meant}
use Rattle.script.specs.Records.{Record, record_of, rest_of, before}
use Rattle.script.specs.Drawn.{drawn_out, drawn_as, drawn, Draws, bytes_left_at, records_left}
use Rattle.script.proofs.Rests.{sized_of, rest_fault, rest_more, rest_last}

abbrev pub Within : List ℕ → Option ℕ → Type 0
Within script next = IfSome next (λ at. at ≤ length script)

-- behind a record of two bytes or more are fewer bytes
pub fewer-left : (script : List ℕ) (at n : ℕ) → 2 ≤ n → at + n ≤ length script
    → bytes_left_at script (cond (leb (length script) (at + n)) None (Some (at + n))) < length script - at + 1
fewer-left script at n two fits =
    cond_both (leb (length script) (at + n)) None (Some (at + n)) (λ next. bytes_left_at script next < length script - at + 1)
    (λ e. omega arith) (λ e. omega arith)

-- a record drawn stands before those that are left
after_record : (script : List ℕ) (at : ℕ) (r : Result (Record × ℕ) ℕ) → at ≤ length script → record_of script at ≡ r
    → (found : ℕ × Record) → Some (Ok found) ≡ Some (drawn_as script at r).0
    → Within script (drawn_as script at r).1 × (rest_of script at ≡ before found.0 found.1 (records_left script (drawn_as script at r).1))
after_record script at (Err fault) low is found e = absurd (cc)
after_record script at (Ok r) low is found e =
    let size = sized_of script at r is in
    let same : found ≡ (at, r.0) = cc in
    elim (cases_lt (at + r.1) (length script)) [
      | inl more ↦
          let test = lt-leb (length script) (at + r.1) more in
          rw (test, same) (omega arith, rest_more script at r low is more)
      | inr all ↦
          let test = le-leb (length script) (at + r.1) all in
          rw (test, same) (tt, rest_last script at r low is all)
    ]

at_fault : (script : List ℕ) (at : ℕ) (r : Result (Record × ℕ) ℕ) (fault : ℕ × ℕ) → at ≤ length script → record_of script at ≡ r
    → Some (Err fault) ≡ Some (drawn_as script at r).0 → rest_of script at ≡ Err fault
at_fault script at (Err number) fault low is e = rest_fault script at number low is ∙ cc
at_fault script at (Ok r) fault low is e = absurd (cc)

drawn-record : (script : List ℕ) (next : Option ℕ) (found : ℕ × Record) → Within script next → Some (Ok found) ≡ (drawn script next).0
    → Within script (drawn script next).1 × (records_left script next ≡ before found.0 found.1 (records_left script (drawn script next).1))
drawn-record script None found low e = absurd (cc)
drawn-record script (Some at) found low e = after_record script at (record_of script at) low refl found e

drawn-fault : (script : List ℕ) (next : Option ℕ) (fault : ℕ × ℕ) → Within script next → Some (Err fault) ≡ (drawn script next).0 → records_left script next ≡ Err fault
drawn-fault script None fault low e = absurd (cc)
drawn-fault script (Some at) fault low e = at_fault script at (record_of script at) fault low refl e

drawn-none : (script : List ℕ) (next : Option ℕ) → None ≡ (drawn script next).0 → records_left script next ≡ Ok []
drawn-none script None e = refl
drawn-none script (Some at) e = absurd (cc)

-- the same of what an iterator gave
module _ (script : List ℕ) (earlier later : Records) (same : earlier.script.now ≡ script) where
  module _ (item : Result (ℕ × Parsed) ScriptFault) (draws : Draws earlier (Some item) later) where
    here : Some (drawn_out item) ≡ (drawn script earlier.next).0
    here = subst (λ s. Some (drawn_out item) ≡ (drawn s earlier.next).0) same draws.item

    next : later.next ≡ (drawn script earlier.next).1
    next = subst (λ s. later.next ≡ (drawn s earlier.next).1) same draws.next

    pub record-given : (found : ℕ × Parsed) → item ≡ Ok found → Within script earlier.next
        → Within script later.next × (records_left script earlier.next ≡ before found.0 (meant found.1) (records_left script later.next))
    record-given found is low =
        subst (λ n. Within script n × (records_left script earlier.next ≡ before found.0 (meant found.1) (records_left script n))) (sym next)
        (drawn-record script earlier.next (found.0, meant found.1) low (sym (ap (λ i. Some (drawn_out i)) is) ∙ here))

    pub fault-given : (found : ScriptFault) → item ≡ Err found → Within script earlier.next → records_left script earlier.next ≡ Err (number_of found.fault, found.at)
    fault-given found is low =
        drawn-fault script earlier.next (number_of found.fault, found.at) low (sym (ap (λ i. Some (drawn_out i)) is) ∙ here)

  pub none-given : Draws earlier None later → records_left script earlier.next ≡ Ok []
  none-given draws = drawn-none script earlier.next (subst (λ s. None ≡ (drawn s earlier.next).0) same draws.item)
