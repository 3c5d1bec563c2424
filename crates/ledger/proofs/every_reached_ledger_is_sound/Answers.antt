use Rattle.ledger.proofs.Totals.{sound-throughout}
use Rattle.ledger.proofs.every_reached_ledger_is_sound.Goals as goal

pub returns : goal.returns
returns g c = sound-throughout
