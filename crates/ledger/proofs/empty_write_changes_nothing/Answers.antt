use Rattle.ledger.proofs.Runs.{empty_write}
use Rattle.ledger.proofs.empty_write_changes_nothing.Goals as goal

pub returns : goal.returns
returns g c = empty_write
