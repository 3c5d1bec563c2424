use Rattle.ledger.proofs.Readers.{would_write-when}
use Rattle.ledger.proofs.would_write_exactly_when_a_reader_is_open.Goals as goal

pub returns : goal.returns
returns g c = would_write-when
