-- A read hands out no more events than there are slots.
use Rattle.std.proofs.Common.{◌≡◌, ℕ, ◌+◌, ◌-◌, ◌<◌, ◌≤◌, Bool, true, false, cond, eqb, List, ◌++◌, length, Some, Option, sym, ap, ◌∙◌, mod-lt, arith, length-append}
use Rattle.ledger.specs.Ledger.{Ledger, Answer, outcome}
use Rattle.ledger.specs.Ledger.Call.{read}
use Rattle.ledger.specs.Ledger.Answer.{handed}
use Rattle.ledger.proofs.Refusals.{by_outcome, meets}
use Rattle.storage.specs.declared.reader.Reader.{Reader}
use Rattle.storage.specs.declared.ring.RingBuffer.{RingBuffer}
use Rattle.storage.specs.declared.view.View.{View}
use Rattle.storage.specs.Calls.{unread_place, unread_count, Runs}
use Rattle.storage.specs.Ledgers.{ledger_of}
use Rattle.storage.specs.Registry.{gap, unread as unread-events}
use Rattle.storage.specs.Views.{unread}

-- one of three figures, each of which has the bound
picked : (b e : Bool) (n m size : ℕ) → n ≤ size → m ≤ size → cond b 0 (cond e n m) ≤ size
picked true e n m size h k = omega arith
picked false true n m size h k = h
picked false false n m size h k = k

unread-few : (last size generation : ℕ) (r : Reader) → 0 < size → unread-events last size generation r ≤ size
unread-few last size generation r pos =
    let all : size ≤ size = omega arith in
    let m = mod-lt (size - r.place + last) pos in
    let below : gap r.place size last ≤ size = omega arith in
    picked (eqb r.generation generation) (eqb (gap r.place size last) 0) size (gap r.place size last) size all below

module _ {E : Type 0} where
  -- an accepted read was handed the channel's own slots
  own_slots : (l : Ledger E) (count instance n : ℕ) (xs : List E) → (outcome l (read count instance n)).0 ≡ handed xs → count ≡ l.slots
  own_slots l count instance n xs =
      by_outcome (λ a m. a ≡ handed xs → count ≡ l.slots) l (read count instance n)
      (λ k e p. let z : ◌≡◌ {A = ℕ} 0 1 = cc in absurd (omega arith))
      (λ e p. (meets l (read count instance n) e).0)

  pub handed-few : (r t : RingBuffer E) (slots : List E) (v : View E) (instance n : ℕ) (reader : Reader)
      → (handed (unread v), ledger_of t slots) ≡ outcome (ledger_of r slots) (read (length slots) instance n)
      → Runs slots (unread_place r reader) (unread_count r reader) r.last.size v → length (unread v) ≤ length slots
  handed-few r t slots v instance n reader told runs =
      let own : length slots ≡ r.slots = own_slots (ledger_of r slots) (length slots) instance n (unread v) (sym (ap (λ x. x.0) told)) in
      let few = unread-few r.last.index r.last.size r.generation reader (omega (arith, r.small)) in
      let both = length-append v.first.now v.second.now in
      omega (arith, runs.left, r.room)
