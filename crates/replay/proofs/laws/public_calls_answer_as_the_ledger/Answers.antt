use Rattle.replay.proofs.Steps.{calls_answer}
use Rattle.replay.proofs.laws.public_calls_answer_as_the_ledger.Goals as goal

pub returns : goal.returns
returns g c = calls_answer
