use Rattle.std.proofs.Common.{refl}
use Rattle.storage.specs.Freed.{stack}
use Rattle.storage.proofs.Keeps.{sound-of, sound_as, removed-sound}
use Rattle.storage.proofs.reader.ReaderMeta.remove.Goals as goal

pub invariant_of-self : goal.invariant_of-self
invariant_of-self c =
    let g = c.args.self.now in sound_as _ _ _ _ _ _ refl c.push.ensures refl (removed-sound g.readers (stack g.free) g.used c.args.id c.requires (sound-of g))
