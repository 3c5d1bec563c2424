-- What a script's channel stands for, and what is shown of a call on it. Assumes nothing.
use Rattle.std.specs.Prelude.{ℕ, Ok, Err, Result}
use Rattle.source.specs.declared.fault.Fault.{Fault}
use Rattle.source.specs.Faults.{number_of}
use Rattle.storage.specs.Ledgers.{ledger_of}
use Rattle.ledger.specs.Ledger.{Ledger}
use Rattle.script.specs.declared.line.Line.{Line}
use Rattle.script.specs.declared.mark.Mark.{Mark}
use Rattle.script.specs.Lines.{Answered, shown, refused}
use Rattle.runner.specs.declared.session.Session.{Session}

abbrev pub ledger_in : Session → Ledger ℕ
ledger_in s = ledger_of s.ring s.slots

-- the line of a call, or its refusal under the mark of its record
abbrev pub shown_by : Mark → Result Line Fault → Answered
shown_by m (Ok line) = shown line
shown_by m (Err fault) = refused m (number_of fault)
