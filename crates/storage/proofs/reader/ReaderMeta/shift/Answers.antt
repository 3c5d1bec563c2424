use Rattle.std.proofs.Common.{◌≡◌, ◌+◌, Some, None, Option, get_or, set, sym, refl, ap, ◌∙◌, arith}
use Rattle.std.proofs.lemmas.Grind.{common_steps}
use Rattle.std.specs.Option.{option_map}
use Rattle.storage.specs.Registry.{raised, shifted}
use Rattle.storage.specs.declared.reader.Reader.{Reader}
use Rattle.storage.specs.Freed.{stack}
use Rattle.storage.proofs.Keeps.{sound-of, sound_as, shifted-sound}
use Rattle.storage.proofs.Over.{over, over_more, over_all}
use Rattle.storage.proofs.Shifts.{moved, stays-below}
use Rattle.storage.proofs.reader.ReaderMeta.shift.Goals as goal
use Rattle.storage.proofs.reader.ReaderMeta.shift.Goals.{in-Some+then-needs_shift, in-Some+else-needs_shift, in_default}

pub loop-entry-preserved : goal.loop-entry-preserved
loop-entry-preserved c =
    let xs = c.args.self.now.readers in
    let ys = c.loop-entry.entry-items in
    let i = c.loop-entry.entry-index in
    let f = shifted c.args.last c.args.generation c.args.by in
    let turn : (y : Option Reader) → y ≡ option_map f (get_or ys i None) → set ys i y ≡ over (option_map f) xs (i + 1) =
    λ y is. over_more (option_map f) xs ys i None y (omega arith) c.loop-entry.invariant is in
    elim c.match-entry.branch [
      | in-Some+then-needs_shift w ↦ w.entry-items-is ∙ turn (Some (raised c.args.by w.in-Some.reader)) (rw w.in-Some.is (ap Some (sym (moved c.args.last c.args.generation c.args.by w.in-Some.reader (sym w.if-needs_shift.ensures)))))
      | in-Some+else-needs_shift w ↦ w.entry-items-is ∙ turn (Some w.in-Some.reader) (rw w.in-Some.is (ap Some (sym (stays-below c.args.last c.args.generation c.args.by w.in-Some.reader (sym w.if-needs_shift.ensures)))))
      | in_default w ↦ w.entry-items-is ∙ turn (get_or ys i None) (rw w.in_default.is refl)
    ]

pub overflow_add-reader : goal.overflow_add-reader
overflow_add-reader c = grind (arith, common_steps, c.loop-entry.invariant, c.in-Some.is, c.requires c.loop-entry.entry-index)

pub invariant_of-self : goal.invariant_of-self
invariant_of-self c =
    let g = c.args.self.now in
    let f = shifted c.args.last c.args.generation c.args.by in
    let all = over_all (option_map f) g.readers c.loop-entry.entry-items c.loop-entry.entry-index (omega arith) c.loop-entry.invariant in
    sound_as _ _ _ _ _ _ all refl refl (shifted-sound f g.readers (stack g.free) g.used (sound-of g))
