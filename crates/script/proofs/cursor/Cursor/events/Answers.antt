use Rattle.std.proofs.Common.{◌<◌, length, sym, arith, subst}
use Rattle.std.proofs.lemmas.List.{take_all}
use Rattle.script.specs.Lines.{spaced}
use Rattle.script.specs.Written.{Writes}
use Rattle.script.proofs.Spaced.{spaced-turn, spaced-more}
use Rattle.script.proofs.Writing.{writes_none, writes-long, writes_more}
use Rattle.script.proofs.cursor.Cursor.events.Goals as goal

pub loop-event-init : goal.loop-event-init
loop-event-init c = writes_none c.args.self.now

pub byte-requires : goal.byte-requires
byte-requires c =
    let turn = spaced-turn c.args.events.now c.loop-event.event-index (omega arith) in
    let was = c.loop-event.invariant in
    omega (arith, was.at, writes-long _ _ _ (omega (arith, turn.0, turn.1)) was)

pub number-requires : goal.number-requires
number-requires c =
    let turn = spaced-turn c.args.events.now c.loop-event.event-index (omega arith) in
    let was = c.loop-event.invariant in
    let long = writes-long _ _ _ (omega (arith, turn.0, turn.1)) was in
    omega (arith, was.at, c.byte.ensures.at, writes-long _ _ _ (omega (arith, was.at, long)) c.byte.ensures)

pub loop-event-preserved : goal.loop-event-preserved
loop-event-preserved c =
    let i = c.loop-event.event-index in
    let es = c.args.events.now in
    let h : i < length es = omega arith in
    let turn = spaced-turn es i h in
    subst (λ text. Writes c.args.self.now c.number.new.self text) (sym (spaced-more es i h))
    (writes_more _ _ _ _ _ _ 32 (omega (arith, turn.0, turn.1)) c.loop-event.invariant c.byte.ensures c.number.ensures)

pub returns : goal.returns
returns c =
    subst (λ es. Writes c.args.self.now c.loop-event.self (spaced es)) (take_all c.loop-event.event-index c.args.events.now c.loop-event-test.false) c.loop-event.invariant
