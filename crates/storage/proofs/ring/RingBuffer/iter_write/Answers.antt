use Rattle.std.proofs.Common.{◌≡◌, ℕ, ◌≤◌, [], length, sym, ap, ◌∙◌, arith}
use Rattle.std.proofs.lemmas.List.{nil_from_length}
use Rattle.ledger.specs.Ledger.{Ledger}
use Rattle.storage.specs.Ledgers.{ledger_of}
use Rattle.storage.specs.Writes.{size_then, no_room, with_size, with_joined}
use Rattle.storage.proofs.Outcomes.{wrote-some, drawn_none}
use Rattle.storage.proofs.ring.RingBuffer.iter_write.Goals as goal

pub returns-then-count-eq0-clause-source : goal.returns-then-count-eq0-clause-source
returns-then-count-eq0-clause-source g c =
    let events = g.S.Source.means c.args.source.now in
    let none : events ≡ [] = nil_from_length events (sym c.len-count.ensures ∙ c.if-count-eq0.true) in
    (none, drawn_none events (g.S.Source.beneath c.args.source.now) none)

pub returns-clause-ledger : goal.returns-clause-ledger
returns-clause-ledger g c =
    let r = c.args.self.now in
    let room = c.in_ok-ensure_additional.ensures in
    let done = c.store.ensures in
    let events = g.S.Source.means c.args.source.now in
    let some : 1 ≤ length events = omega arith in
    let L : Ledger g.row.E.Denot = ledger_of r c.args.slots.now in
    wrote-some L (ledger_of c.store.new.self c.store.new.slots) (length c.args.slots.now) c.len-count.result events c.if-slots-self.false some c.len-count.ensures
    (ap (λ (n : ℕ). no_room L n) (sym c.len-count.ensures) ∙ room.unrefused)
    (done.ledger ∙ ap (λ (l : Ledger g.row.E.Denot). with_joined l events) (room.ledger ∙ ap (λ (n : ℕ). with_size L (size_then L n)) c.len-count.ensures))
