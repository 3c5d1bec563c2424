use Rattle.std.proofs.Common.{◌^◌, ◌<◌, ◌≤◌, length, sym, ap, ◌∙◌, arith}
use Rattle.storage.specs.Slots.{last_after}
use Rattle.storage.proofs.Stores.{stored-facts, stored-ledger}
use Rattle.storage.proofs.ring.RingBuffer.store.Goals as goal

pub invariant_of-self : goal.invariant_of-self
invariant_of-self g c =
    let r = c.args.self.now in
    let fits : r.generation < 2 ^ 64 = omega arith in
    let value = c.put_all-self.ensures.index ∙ ap (λ n. last_after r.last.size r.last.index n) (sym c.requires.all) in
    stored-facts r fits c.put_all-self.result c.args.num value c.put_all-self.ensures.size c.requires.some c.requires.enough

pub returns-clause-ledger : goal.returns-clause-ledger
returns-clause-ledger g c =
    let r = c.args.self.now in
    let fits : r.generation < 2 ^ 64 = omega arith in
    let room : r.last.size ≤ length c.args.slots.now = omega arith in
    let events = g.S.Source.means c.args.source.now in
    let some : 1 ≤ length events = omega arith in
    let enough : length events ≤ r.available = omega arith in
    let done = c.put_all-self.ensures in
    stored-ledger r fits c.args.slots.now c.put_all-self.new.slots c.put_all-self.result events done.after done.index done.size some enough room
