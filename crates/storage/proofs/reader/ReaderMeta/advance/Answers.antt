use Rattle.storage.specs.Freed.{stack}
use Rattle.storage.specs.Registry.{fresh}
use Rattle.storage.proofs.Keeps.{sound-of, advanced-sound}
use Rattle.storage.proofs.reader.ReaderMeta.advance.Goals as goal

pub invariant_of-self : goal.invariant_of-self
invariant_of-self c =
    let g = c.args.self.now in advanced-sound g.readers (stack g.free) g.used c.args.id c.requires (sound-of g) (fresh c.args.place c.args.generation)
