use Rattle.std.proofs.Common.{arith}
use Rattle.replay.proofs.Whole.{whole_run}
use Rattle.replay.proofs.run.replay.Goals as goal

pub returns-clause-run : goal.returns-clause-run
returns-clause-run g c =
    let room = rw c.in_ok-room.ensures.ok_part at c.checked_mul.ensures in (
      c.if-notes-calls.false,
      omega (arith, c.if-log-room.false, room.1),
      whole_run g.S.Source.means g.S.Source.beneath _ c.args.size _ _ _ c.in_ok-open.field-0 c.new-channel.result
          c.in_ok-open.ensures c.new-channel.ensures c.run-events.ensures.logged,
    )
