use Rattle.replay.proofs.Copying.{past_both}
use Rattle.replay.proofs.step.log_all.Goals as goal

pub returns-clause-back : goal.returns-clause-back
returns-clause-back g c =
    rw (c.copy_from_slice.ensures.after, c.copy_from_slice-2.ensures.after, c.split_at_mut-front.ensures.back) (past_both c.args.log.now c.args.first.now c.args.second.now)
