use Rattle.std.proofs.Common.{◌≡◌, length}
use Rattle.replay.specs.Runs.{state}
use Rattle.replay.proofs.Logs.{Done}
use Rattle.replay.proofs.run.run.Given as goal

abbrev pub invariant-loop-i : goal.invariant-loop-i
invariant-loop-i g l =
    Done g.S.Source.means g.S.Source.beneath (length l.initial.others) (state l.initial.channel l.initial.slots l.initial.ids)
    l.initial.calls l.initial.notes l.initial.log l.i l.at l.calls l.notes l.log (state l.channel l.slots l.ids)
    × (l.others ≡ l.initial.others)
