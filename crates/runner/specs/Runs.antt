-- What a run of a script leaves. Assumes nothing.
use Rattle.std.specs.Prelude.{◌≡◌, ℕ, ◌+◌, ◌-◌, List, length, Some, None, Ok, Err, Option, Result}
use Rattle.std.proofs.Math.Seq.{paste}
use Rattle.source.specs.Faults.{number_of}
use Rattle.ledger.specs.Ledger.{Ledger}
use Rattle.script.specs.declared.check.ScriptFault.{ScriptFault}
use Rattle.script.specs.Drawn.{records_left}
use Rattle.script.specs.Records.{Record, meaning}
use Rattle.runner.specs.declared.run.Ran.{Ran}
use Rattle.runner.specs.Sessions.{answers, session, printed}

-- a fault's number and place
abbrev pub fault_of : Option ScriptFault → Option (ℕ × ℕ)
fault_of None = None
fault_of (Some f) = Some (number_of f.fault, f.at)

-- 16 at the place of the record whose line has no room
abbrev pub full_at : Option ℕ → Option (ℕ × ℕ)
full_at None = None
full_at (Some place) = Some (16, place)

-- lines written into an output behind its first bytes: where they end, no byte changed but theirs, and the fault
pub record Wrote (before : List ℕ) (from : ℕ) (lines : List ℕ × Option ℕ) (after : List ℕ) (r : Ran) : Type 0 where
  pub written : r.written ≡ from + length lines.0
  pub output : after ≡ paste before from lines.0 (length lines.0)
  pub fault : fault_of r.fault ≡ full_at lines.1

-- a script with a fault: nothing is written
pub record Faulty (before : List ℕ) (found : ℕ × ℕ) (after : List ℕ) (r : Ran) : Type 0 where
  pub written : r.written ≡ 0
  pub output : after ≡ before
  pub fault : fault_of r.fault ≡ Some found

-- a run of bytes that mean this, by the output before and after
abbrev pub Ends : Result (List (ℕ × Record)) (ℕ × ℕ) → List ℕ → List ℕ → Ran → Type 0
Ends (Ok records) before after r = Wrote before 0 (printed (length before) (session records)) after r
Ends (Err fault) before after r = Faulty before fault after r

abbrev pub Runs : List ℕ → List ℕ → List ℕ → Ran → Type 0
Runs script before after r = Ends (meaning script) before after r

-- the same of the records that are left, with this ledger and so many bytes written
abbrev pub Carries : List ℕ → Option ℕ → Ledger ℕ → List ℕ → ℕ → List ℕ → Ran → Type 0
Carries script next l before from after r =
    (records : List (ℕ × Record)) → records_left script next ≡ Ok records
    → Wrote before from (printed (length before - from) (answers l records)) after r

-- the same of a whole script that passed the check
abbrev pub Begins : List ℕ → List ℕ → List ℕ → Ran → Type 0
Begins script before after r =
    (records : List (ℕ × Record)) → meaning script ≡ Ok records → Wrote before 0 (printed (length before) (session records)) after r
