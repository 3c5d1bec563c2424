use Rattle.std.proofs.Common.{sym, ◌∙◌, mod-eq_of_lt, arith}
use Rattle.storage.proofs.Storing.{next-wraps}
use Rattle.storage.proofs.circular.CircularIndex.step.Goals as goal
use Rattle.storage.proofs.circular.CircularIndex.step.Goals.{then-after-self, else-after-self}

pub returns-clause-index : goal.returns-clause-index
returns-clause-index c = c.new.ensures.index ∙ elim c.if-after-self.branch [
  | then-after-self w ↦ w.index-is ∙ sym (next-wraps _ _ w.if-after-self.true)
  | else-after-self w ↦ w.index-is ∙ sym (mod-eq_of_lt (omega arith))
]
