use Rattle.ledger.proofs.Ports.{ports_keep_laws}
use Rattle.ledger.proofs.programs_that_answer_as_the_ledger_keep_its_laws.Goals as goal

pub returns : goal.returns
returns g c = ports_keep_laws
