use Rattle.std.proofs.Common.{◌+◌, ◌<◌, ◌≤◌, length, ap, ◌∙◌, arith}
use Rattle.std.proofs.lemmas.List.{take_rest}
use borrow.Author.Rules.{scaled_fits≤}
use Rattle.replay.specs.Runs.{state}
use Rattle.replay.proofs.Logs.{room_left, done_more, done_all}
use Rattle.replay.proofs.run.run.Goals as goal

pub offset_bounds-log-at : goal.offset_bounds-log-at
offset_bounds-log-at g c =
    let room : c.loop-i.at + 0 ≤ length c.loop-i.log =
    room_left g.S.Source.means g.S.Source.beneath _ _ _ _ _ _ _ _ _ _ _ 0 c.loop-i.invariant.0 c.loop-i-test.true (omega (arith, c.requires.log, c.loop-i.auto.log)) (omega arith) in
    search (scaled_fits≤, arith)

pub overflow_add-at : goal.overflow_add-at
overflow_add-at g c =
    let room = room_left g.S.Source.means g.S.Source.beneath _ _ _ _ _ _ _ _ _ _ _ c.count_in-at.result c.loop-i.invariant.0 c.loop-i-test.true
    (omega (arith, c.requires.log, c.loop-i.auto.log)) (omega (arith, c.step-note.ensures.logged.few, c.count_in-at.ensures, c.loop-i.auto.slots)) in
    search arith

pub loop-i-preserved : goal.loop-i-preserved
loop-i-preserved g c =
    let room : c.loop-i.at + 0 ≤ length c.loop-i.log =
    room_left g.S.Source.means g.S.Source.beneath _ _ _ _ _ _ _ _ _ _ _ 0 c.loop-i.invariant.0 c.loop-i-test.true (omega (arith, c.requires.log, c.loop-i.auto.log)) (omega arith) in
    let h : c.loop-i.i < length c.args.calls.now = c.loop-i-test.true in (
      done_more g.S.Source.means g.S.Source.beneath _ _ _ _ (state c.step-note.new.channel c.step-note.new.slots c.step-note.new.ids)
          _ _ _ _ _ _ _ c.index-calls-i.result _ _ _ _ (omega arith)
          h (omega (arith, c.loop-i.auto.calls)) (omega (arith, c.requires.notes, c.loop-i.auto.notes)) (omega (arith, c.requires.notes)) c.loop-i.auto.slots c.loop-i.invariant.0
          (ap length c.loop-i.invariant.1) (rw (take_rest c.loop-i.log c.loop-i.at) at c.step-note.ensures.logged)
          c.count_in-at.result c.count_in-at.ensures,
      c.step-note.ensures.others ∙ c.loop-i.invariant.1,
    )

pub returns : goal.returns
returns g c =
    record {
      logged = done_all g.S.Source.means g.S.Source.beneath _ _ _ _ _ _ _ _ _ _ _ c.loop-i-test.false c.loop-i.auto.i-end c.loop-i.auto.calls c.loop-i.invariant.0;
      others = c.loop-i.invariant.1;
    }
