use Rattle.ledger.proofs.Totals.{equal_waiting}
use Rattle.ledger.proofs.equal_waiting_lists_exactly_when_equally_many_accepted.Goals as goal

pub returns : goal.returns
returns g c = equal_waiting
