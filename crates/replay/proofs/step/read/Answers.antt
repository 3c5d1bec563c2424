use Rattle.std.proofs.Common.{length, arith, ap, length-append}
use Rattle.replay.proofs.Reading.{handed-few}
use Rattle.replay.proofs.step.read.Goals as goal

pub returns-clause-few : goal.returns-clause-few
returns-clause-few g c =
    let few = handed-few c.args.channel.now.ring c.read.new.self.ring c.args.slots.now c.in_ok-read.field-0 _ _ c.in_ok-read.ensures.runs.0 c.in_ok-read.ensures.ledger c.in_ok-read.ensures.runs.2 in
    let all = length-append c.in_ok-read.field-0.first.now c.in_ok-read.field-0.second.now in
    omega (arith, c.log_all.ensures.count, ap length c.parts.ensures.first, ap length c.parts.ensures.second)
