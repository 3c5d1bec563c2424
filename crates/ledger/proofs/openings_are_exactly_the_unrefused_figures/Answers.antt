use Rattle.ledger.proofs.Refusals.{openings}
use Rattle.ledger.proofs.openings_are_exactly_the_unrefused_figures.Goals as goal

pub returns : goal.returns
returns g c = openings
