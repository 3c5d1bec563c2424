use Rattle.std.proofs.Common.{◌<◌, arith, rules}
use Rattle.storage.specs.Registry.{most, lives}
use Rattle.storage.proofs.Each.{with-fresh}
use Rattle.storage.proofs.Numbering.{register-some, register-none}
use Rattle.storage.proofs.ring.RingBuffer.new_reader_id.Goals as goal

pub returns-then-is_full-clause-ledger : goal.returns-then-is_full-clause-ledger
returns-then-is_full-clause-ledger g c slots =
    let r = c.args.self.now in
    register-none r.instance r.slots slots r.last.index r.last.size r.generation r.meta (search rules)

pub invariant_of-self : goal.invariant_of-self
invariant_of-self g c = with-fresh c.args.self.now c.alloc.new.self.readers c.alloc.result c.alloc.ensures.parts.readers_are (omega arith)

pub returns-clause-ledger : goal.returns-clause-ledger
returns-clause-ledger g c slots =
    let r = c.args.self.now in
    let room : lives r.meta.readers < most = grind (arith, c.if-is_full.ensures, r.meta.whole, r.meta.few) in
    register-some r.instance r.slots slots r.last.index r.last.size r.generation r.meta c.alloc.new.self c.alloc.result r.last.within room c.alloc.ensures
