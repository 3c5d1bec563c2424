use Rattle.ledger.proofs.Totals.{each_event_once}
use Rattle.ledger.proofs.each_event_once_and_in_order.Goals as goal

pub returns : goal.returns
returns g c = each_event_once
