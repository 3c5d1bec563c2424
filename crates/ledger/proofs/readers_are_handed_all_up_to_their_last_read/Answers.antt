use Rattle.ledger.proofs.Totals.{readers_hold}
use Rattle.ledger.proofs.readers_are_handed_all_up_to_their_last_read.Goals as goal

pub returns : goal.returns
returns g c = readers_hold
