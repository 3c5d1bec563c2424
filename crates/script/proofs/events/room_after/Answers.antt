use Rattle.std.proofs.Common.{arith}
use Rattle.std.proofs.lemmas.List.{take_all}
use Rattle.script.proofs.Spaced.{spaced-turn}
use Rattle.script.proofs.events.room_after.Goals as goal

pub returns-in_err-left : goal.returns-in_err-left
returns-in_err-left c =
    let turn = spaced-turn c.args.events.now c.loop-event.event-index (omega arith) in
    rw c.from_residual.ensures (omega (arith, c.in_err-left.ensures))

pub loop-event-preserved : goal.loop-event-preserved
loop-event-preserved c =
    let turn = spaced-turn c.args.events.now c.loop-event.event-index (omega arith) in
    omega (arith, c.in_ok-left.ensures)

pub returns : goal.returns
returns c =
    let all = take_all c.loop-event.event-index c.args.events.now c.loop-event-test.false in
    let was = c.loop-event.invariant in
    cc
