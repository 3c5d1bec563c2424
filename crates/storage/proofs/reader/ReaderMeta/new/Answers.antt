use Rattle.std.proofs.Common.{None, replicate, refl}
use Rattle.storage.specs.Registry.{most}
use Rattle.storage.proofs.Keeps.{sound_as, new_sound}
use Rattle.storage.proofs.reader.ReaderMeta.new.Goals as goal

pub invariant_of-result : goal.invariant_of-result
invariant_of-result c = sound_as (replicate most None) (replicate most None) _ _ _ _ refl c.new.ensures refl new_sound
