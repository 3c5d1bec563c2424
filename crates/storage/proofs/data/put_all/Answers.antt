use Rattle.storage.proofs.Drawing.{leads-more, leads-all}
use Rattle.storage.proofs.data.put_all.Goals as goal

pub loop-event-preserved : goal.loop-event-preserved
loop-event-preserved g c =
    leads-more _ _ _ _ _ _ _ _ _ _ _ _ _ c.loop-event.invariant c.in-Some.ensures.gives c.in-Some.ensures.draws
    c.step-at.ensures.index c.step-at.ensures.size c.put.ensures

pub returns-clause-drawn : goal.returns-clause-drawn
returns-clause-drawn g c = (leads-all _ _ _ _ _ _ _ _ _ c.loop-event.invariant c.in_default.ensures.gives.0 c.in_default.ensures.draws).1
