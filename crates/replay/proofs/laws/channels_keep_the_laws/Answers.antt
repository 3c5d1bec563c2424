use Rattle.replay.proofs.Steps.{channels_keep_laws}
use Rattle.replay.proofs.laws.channels_keep_the_laws.Goals as goal

pub returns : goal.returns
returns g c = channels_keep_laws
