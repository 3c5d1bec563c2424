use Rattle.std.proofs.Common.{length}
use Rattle.storage.proofs.Drawing.{Leads}
use Rattle.storage.proofs.data.put_all.Given as goal

abbrev pub invariant-loop-event : goal.invariant-loop-event
invariant-loop-event g l =
    Leads l.slots l.at (g.S.Source.means l.source) (g.S.Source.beneath l.source)
    l.initial.slots l.initial.at (g.S.Source.means l.initial.source) (g.S.Source.beneath l.initial.source)

abbrev pub decreases-loop-event : goal.decreases-loop-event
decreases-loop-event g l = length (g.S.Source.means l.source)
