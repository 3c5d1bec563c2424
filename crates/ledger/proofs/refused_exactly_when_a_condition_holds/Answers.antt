use Rattle.ledger.proofs.Refusals.{refusals}
use Rattle.ledger.proofs.refused_exactly_when_a_condition_holds.Goals as goal

pub returns : goal.returns
returns g c = refusals
