use Rattle.std.proofs.Common.{◌≡◌, Some, sym, refl, ap, ◌∙◌}
use Rattle.ledger.specs.Ledger.{Ledger, closed}
use Rattle.storage.specs.Freed.{stack}
use Rattle.storage.specs.Registry.{entry}
use Rattle.storage.proofs.Each.{with-shut}
use Rattle.storage.proofs.Numbering.{ledger-parts, close_open}
use Rattle.storage.proofs.ring.RingBuffer.close.Goals as goal

pub invariant_of-self : goal.invariant_of-self
invariant_of-self g c = with-shut c.args.self.now c.remove.new.self.readers c.args.number c.remove.ensures.readers_are

pub returns-clause-ledger : goal.returns-clause-ledger
returns-clause-ledger g c slots =
    let r = c.args.self.now in
    let here : entry r.meta.readers c.args.number ≡ Some c.in_ok-ok_or.field-0 = sym c.reader.ensures ∙ c.in_ok-ok_or.ensures.ok_part in
    ap (λ (l : Ledger g.row.E.Denot). (closed, l)) (ledger-parts r.instance r.slots slots r.last.index r.last.size r.generation c.remove.new.self _ _ _ c.remove.ensures)
    ∙ close_open r.instance r.slots slots r.last.index r.last.size r.generation r.meta.readers (stack r.meta.free) r.meta.used c.args.number (rw here refl)
