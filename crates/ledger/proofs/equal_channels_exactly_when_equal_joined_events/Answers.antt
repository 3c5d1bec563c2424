use Rattle.ledger.proofs.Runs.{equal_after_writes}
use Rattle.ledger.proofs.equal_channels_exactly_when_equal_joined_events.Goals as goal

pub returns : goal.returns
returns g c = equal_after_writes
