use Rattle.std.proofs.Common.{◌≡◌, ◌+◌, ◌%◌, ◌^◌, ◌<◌, ◌≤◌, length, arith}
use Rattle.storage.specs.Slots.{grown}
use Rattle.storage.proofs.Stores.{grown-facts, grown-ledger}
use Rattle.storage.proofs.ring.RingBuffer.grow.Goals as goal

pub invariant_of-self : goal.invariant_of-self
invariant_of-self g c =
    let fits : c.args.self.now.generation < 2 ^ 64 = omega arith in
    grown-facts c.args.self.now fits c.shift.new.self.readers c.resized-self.result c.args.by c.args.left c.shift.ensures.readers_are c.resized-self.ensures.index c.resized-self.ensures.size c.requires.double c.requires.room c.requires.least c.requires.ahead

pub returns-clause-ledger : goal.returns-clause-ledger
returns-clause-ledger g c =
    let r = c.args.self.now in
    let fits : r.generation < 2 ^ 64 = omega arith in
    let room : r.last.size + c.args.by ≤ length c.args.slots.now = omega arith in
    let moved : c.grow.new.slots ≡ grown c.args.slots.now ((r.last.index + 1) % r.last.size) r.last.size c.args.by =
    simp (c.step.ensures.index, c.step.ensures.size) at c.grow.ensures in
    grown-ledger r fits c.args.slots.now c.grow.new.slots c.shift.new.self c.resized-self.result c.args.by c.shift.ensures c.resized-self.ensures.index c.resized-self.ensures.size moved c.requires.double room
