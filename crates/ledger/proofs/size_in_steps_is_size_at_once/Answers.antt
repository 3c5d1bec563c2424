use Rattle.ledger.proofs.Sizes.{size_laws}
use Rattle.ledger.proofs.size_in_steps_is_size_at_once.Goals as goal

pub returns : goal.returns
returns c = size_laws
