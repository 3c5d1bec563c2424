use Rattle.std.proofs.Common.{ℕ, Some, set, refl, ap, arith}
use Rattle.storage.specs.Freed.{stack}
use Rattle.storage.specs.Registry.{fresh}
use Rattle.storage.proofs.Keeps.{sound-of, sound_as, opened-sound}
use Rattle.storage.proofs.reader.ReaderMeta.alloc.Goals as goal
use Rattle.storage.proofs.reader.ReaderMeta.alloc.Goals.{in-Some, in-None}

pub invariant_of-self : goal.invariant_of-self
invariant_of-self c =
    let g = c.args.self.now in
    let sound = opened-sound g.readers (stack g.free) g.used (fresh c.args.place c.args.generation) c.requires (sound-of g) in
    let put = λ (n : ℕ). set g.readers n (Some (fresh c.args.place c.args.generation)) in
    elim c.match-pop.branch [
      | in-Some w ↦ sound_as _ _ _ _ _ _ (ap put (rw (w.id-is, w.in-Some.ensures) refl)) (rw w.in-Some.ensures refl) (rw (w.self-is, w.in-Some.ensures) refl) sound
      | in-None w ↦ sound_as _ _ _ _ _ _ (ap put (rw (w.id-is, w.in-None.ensures.0) (omega arith))) (rw (w.in-None.ensures.1, w.in-None.ensures.0) refl) (rw (w.self-is, w.in-None.ensures.0) refl) sound
    ]
