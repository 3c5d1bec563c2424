use Rattle.std.proofs.Common.{◌≤◌, sym, refl, arith}
use Rattle.std.proofs.lemmas.Bool.{le-leb}
use Rattle.storage.proofs.Rooms.{as_it_is}
use Rattle.storage.proofs.ring.RingBuffer.ensure_additional.Goals as goal

pub returns-then-self-num : goal.returns-then-self-num
returns-then-self-num g c =
    let r = c.args.self.now in
    let small : c.args.num ≤ r.last.size = omega arith in
    as_it_is r c.args.slots.now c.requires.own c.args.num r (λ k lv. omega (arith, r.ahead k lv)) small c.if-self-num.true (sym (rw (le-leb c.args.num r.available c.if-self-num.true))) refl refl refl refl refl
