use Rattle.ledger.proofs.Found.{registrations}
use Rattle.ledger.proofs.each_registration_is_one_reader.Goals as goal

pub returns : goal.returns
returns g c = registrations
