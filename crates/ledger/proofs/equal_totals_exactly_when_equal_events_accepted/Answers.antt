use Rattle.ledger.proofs.Totals.{equal_totals}
use Rattle.ledger.proofs.equal_totals_exactly_when_equal_events_accepted.Goals as goal

pub returns : goal.returns
returns g c = equal_totals
