use Rattle.std.proofs.Common.{◌≡◌, ℕ, ◌+◌, ◌-◌, ◌<◌, refl, subst, arith}
use Rattle.ledger.specs.Ledger.{size_for}
use Rattle.ledger.proofs.Sizes.{size_laws}
use Rattle.std.proofs.lemmas.Result.{err_from_is_err_and}
use Rattle.source.specs.declared.fault.Fault.TheVariants.{GrowthAboveSlots}
use Rattle.storage.proofs.Entries.{clash}
use Rattle.storage.proofs.Rooms.{too_long, too_large, as_it_is, nobody, closest, nearest_ahead, nearest_least, nobody_available, somebody_available, grown-room, twice_at_least}
use Rattle.storage.proofs.ring.RingBuffer.ensure_additional_slow.Goals as goal

pub returns-then-num-size : goal.returns-then-num-size
returns-then-num-size g c =
    (too_long c.args.self.now c.args.slots.now c.requires.own c.args.num c.in_default.ensures c.if-num-size.true, refl, refl)

pub returns-in_default : goal.returns-in_default
returns-in_default g c =
    let r = c.args.self.now in
    as_it_is r c.args.slots.now c.requires.own c.args.num _ (λ k e is. clash _ e (nobody r c.args.slots.now c.requires.own c.in_default.ensures k) is)
    c.if-num-size.false c.if-num-size.false
    (nobody_available r c.args.slots.now c.requires.own c.args.num c.in_default.ensures c.requires.short c.if-num-size.false) refl refl refl refl refl

pub returns-then-left-num : goal.returns-then-left-num
returns-then-left-num g c =
    let r = c.args.self.now in
    let slots = c.args.slots.now in
    let e = c.unwrap-reader.result in
    let left = c.distance_from-left.result in
    let near = closest r slots c.requires.own c.in-Some.nearest e c.in-Some.ensures c.unwrap-reader.ensures in
    let ahead = nearest_ahead r slots c.requires.own e left near c.distance_from-left.ensures in
    let least = nearest_least r slots c.requires.own e left near c.distance_from-left.ensures in
    as_it_is r slots c.requires.own c.args.num _ (λ k s is. omega (arith, ahead k s is, c.if-left-num.true)) (omega arith) c.if-left-num.true
    (somebody_available r slots c.requires.own c.args.num e left near c.distance_from-left.ensures c.requires.short c.if-left-num.true) refl refl refl refl refl

pub returns-in_err-grown : goal.returns-in_err-grown
returns-in_err-grown g c =
    let r = c.args.self.now in
    let slots = c.args.slots.now in
    let e = c.unwrap-reader.result in
    let near = closest r slots c.requires.own c.in-Some.nearest e c.in-Some.ensures c.unwrap-reader.ensures in
    let p = err_from_is_err_and c.from_residual.result c.from_residual.ensures.1 in
    let none = rw c.in_err-grown.ensures.ok_part at c.grown_size.ensures in
    let refusal = rw c.in_err-grown.ensures.ok_part at c.in_err-grown.ensures.value in
    let fault : c.in_err-grown.field-0.0 ≡ GrowthAboveSlots = cc in
    rw (p.1, p.2, fault) (
      too_large r slots c.requires.own c.args.num e near
          (subst (λ (d : ℕ). r.slots < size_for r.last.size (r.last.size - d + c.args.num)) c.distance_from-left.ensures none),
      refl,
      refl,
    )

pub overflow_sub-grown : goal.overflow_sub-grown
overflow_sub-grown g c = omega (arith, size_laws.never_smaller c.args.self.now.last.size (c.args.self.now.last.size - c.distance_from-left.result + c.args.num) (omega arith), (rw c.in_ok-grown.ensures.ok_part at c.grown_size.ensures).0)

pub grow-requires-clause-double : goal.grow-requires-clause-double
grow-requires-clause-double g c =
    let r = c.args.self.now in
    let more : r.last.size < r.last.size - c.distance_from-left.result + c.args.num = omega arith in
    let twice = twice_at_least r.last.size (r.last.size - c.distance_from-left.result + c.args.num) (omega arith) more in
    omega (arith, twice, (rw c.in_ok-grown.ensures.ok_part at c.grown_size.ensures).0)

pub returns : goal.returns
returns g c =
    let r = c.args.self.now in
    let slots = c.args.slots.now in
    let e = c.unwrap-reader.result in
    let near = closest r slots c.requires.own c.in-Some.nearest e c.in-Some.ensures c.unwrap-reader.ensures in
    let done = c.grow.ensures in
    let grown = rw c.in_ok-grown.ensures.ok_part at c.grown_size.ensures in
    grown-room r slots c.requires.own c.args.num e c.distance_from-left.result c.in_ok-grown.grown
    c.grow.new.self c.grow.new.slots near c.distance_from-left.ensures c.requires.short (omega arith) grown.0 grown.1
    done.available done.last done.generation done.slots done.ledger
