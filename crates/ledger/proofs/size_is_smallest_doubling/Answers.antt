use Rattle.ledger.proofs.Sizes.{size_rule}
use Rattle.ledger.proofs.size_is_smallest_doubling.Goals as goal

pub returns : goal.returns
returns c = size_rule
