use Rattle.ledger.proofs.Runs.{run_is_one_write}
use Rattle.ledger.proofs.run_of_writes_is_one_write.Goals as goal

pub returns : goal.returns
returns g c = run_is_one_write
