use Rattle.ledger.proofs.Cases.{known_answers}
use Rattle.ledger.proofs.known_answers_hold.Goals as goal

pub returns : goal.returns
returns c = known_answers
