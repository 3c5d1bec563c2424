use Rattle.std.proofs.Common.{◌≡◌, ◌+◌, length, take}
use Rattle.script.specs.Lines.{spaced}
use Rattle.script.proofs.events.room_after.Given as goal

abbrev pub invariant-loop-event : goal.invariant-loop-event
invariant-loop-event l = l.left + length (spaced (take l.event-index l.events)) ≡ l.room
