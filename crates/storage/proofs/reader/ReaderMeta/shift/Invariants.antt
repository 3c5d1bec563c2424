use Rattle.std.proofs.Common.{◌≡◌}
use Rattle.std.specs.Option.{option_map}
use Rattle.storage.specs.Registry.{shifted}
use Rattle.storage.proofs.Over.{over}
use Rattle.storage.proofs.reader.ReaderMeta.shift.Given as goal

abbrev pub invariant-loop-entry : goal.invariant-loop-entry
invariant-loop-entry l = l.entry-items ≡ over (option_map (shifted l.last l.generation l.by)) l.initial.entry-items l.entry-index
