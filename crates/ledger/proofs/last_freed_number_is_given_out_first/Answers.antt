use Rattle.ledger.proofs.Numbers.{numbers_given}
use Rattle.ledger.proofs.last_freed_number_is_given_out_first.Goals as goal

pub returns : goal.returns
returns g c = numbers_given
