use Rattle.std.proofs.Common.{◌≡◌, Some, sym, ◌∙◌, arith}
use Rattle.storage.specs.Registry.{entry}
use Rattle.storage.specs.Calls.{unread_place, unread_count}
use Rattle.storage.proofs.Each.{with-fresh}
use Rattle.storage.proofs.Handing.{read-hands, same_runs}
use Rattle.storage.proofs.ring.RingBuffer.read.Goals as goal

pub invariant_of-self : goal.invariant_of-self
invariant_of-self g c = with-fresh c.args.self.now c.advance.new.self.readers c.args.number c.advance.ensures.readers_are (omega arith)

pub returns-clause-ledger : goal.returns-clause-ledger
returns-clause-ledger g c =
    let r = c.args.self.now in
    let slots = c.args.slots.now in
    let reader = c.in_ok-reader.reader in
    let here : entry r.meta.readers c.args.number ≡ Some reader = sym c.reader.ensures ∙ c.in_ok-reader.ensures.ok_part in
    let at : c.step-from.result.index ≡ unread_place r reader = simp (c.new.ensures.index, c.new.ensures.size) at c.step-from.ensures.index in
    let round : c.step-from.result.size ≡ r.last.size = c.step-from.ensures.size ∙ c.new.ensures.size in
    let many : c.unread_from-count.result ≡ unread_count r reader = c.unread_from-count.ensures in
    let runs = same_runs slots _ _ _ _ _ _ c.new-2.result at many round c.new-2.ensures in
    read-hands r slots c.args.number reader c.advance.new.self c.new-2.result (omega arith) here c.advance.ensures runs
