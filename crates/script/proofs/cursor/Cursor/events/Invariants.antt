use Rattle.std.proofs.Common.{take}
use Rattle.script.specs.Lines.{spaced}
use Rattle.script.specs.Written.{Writes}
use Rattle.script.proofs.cursor.Cursor.events.Given as goal

abbrev pub invariant-loop-event : goal.invariant-loop-event
invariant-loop-event l = Writes l.initial.self l.self (spaced (take l.event-index l.events))
