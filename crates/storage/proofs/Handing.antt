-- Who is open, and reading, from the table of readers to the ledger.
use Rattle.std.proofs.Common.{◌≡◌, ℕ, ◌+◌, ◌-◌, ◌%◌, ◌<◌, ◌≤◌, min, Bool, true, false, List, ◌++◌, map, length, set, is_some, Some, Option, ◌↔◌, sym, refl, ap, ◌∙◌, arith}
use Rattle.std.specs.Prelude.{IsTrue}
use Rattle.std.proofs.lemmas.Bool.{both_ways}
use Rattle.ledger.specs.Ledger as ledger
use Rattle.ledger.specs.Ledger.{Ledger, Answer, outcome}
use Rattle.ledger.proofs.Refusals.{suffices}
use Rattle.storage.specs.declared.reader.Reader.{Reader}
use Rattle.storage.specs.declared.reader.ReaderMeta.{ReaderMeta}
use Rattle.storage.specs.declared.ring.RingBuffer.{RingBuffer}
use Rattle.storage.specs.declared.view.View.{View}
use Rattle.storage.specs.Registry.{fresh, entry, Live, distance, unread}
use Rattle.storage.specs.Freed.{stack}
use Rattle.storage.specs.Meta.{HasParts}
use Rattle.storage.specs.Slots.{part, waiting_in}
use Rattle.storage.specs.Ledgers.{reader_of, ledger_with, ledger_of}
use Rattle.storage.specs.Calls.{unread_place, unread_count, Runs}
use Rattle.storage.specs.Views.{unread as handed-events}
use Rattle.storage.proofs.Distances.{distance-le, unread-distance}
use Rattle.storage.proofs.Entries.{not_open}
use Rattle.storage.proofs.Lifts.{reader_at_of, open_at_of, none_open_of, some_open_of}
use Rattle.storage.proofs.Numbering.{accepted-is, set-fresh, ledger-parts}
use Rattle.storage.proofs.Waiting.{runs_of_reader}

module _ {E : Type 0} (slots : List E) (last size generation : ℕ) where
  -- the table and the ledger agree on whether somebody is open
  pub any_open_is : (rs : List (Option Reader)) (b : Bool) → (IsTrue b ↔ ((k : ℕ) × Live rs k)) → b ≡ ledger.any_open (map (reader_of slots last size generation) rs)
  any_open_is rs true d = let p = d.0 refl in sym (some_open_of slots last size generation rs p.0 p.1)
  any_open_is rs false d = sym (none_open_of slots last size generation rs (λ k. not_open (entry rs k) (λ lv. absurd (both_ways false refl (d.1 (k, lv))))))

  -- the two runs from the place after the reader's, as long as its count of unread events, are what waits for it
  pub runs_unread : (r : Reader) (q : ℕ) → size ≤ length slots → last < size → r.place < size → (r.generation ≡ generation → r.place ≡ last)
      → q ≡ (r.place + 1) % size
      → part slots q (min (unread last size generation r) (size - q)) ++ part slots 0 (unread last size generation r - (size - q))
      ≡ waiting_in slots last size generation r
  runs_unread r q room below place level e =
      let sum = unread-distance last size generation r below place level in
      let most = distance-le last size generation r below place in
      let count : unread last size generation r ≡ size - distance last size generation r = omega arith in
      rw count (runs_of_reader slots size last generation q r room below most e)

same_answer : {E : Type 0} (xs ys : List E) (l m : Ledger E) → xs ≡ ys → l ≡ m → ◌≡◌ {A = Answer E × Ledger E} (ledger.handed xs, l) (ledger.handed ys, m)
same_answer xs ys l m e f = rw (e, f)

module _ {E : Type 0} (r : RingBuffer E) (slots : List E) where
  abbrev L : Ledger E
  L = ledger_of r slots

  -- a read that hands out both runs and leaves the reader with nothing to read
  pub read-hands : (n : ℕ) (reader : Reader) (h : ReaderMeta) (v : View E) → length slots ≡ r.slots → entry r.meta.readers n ≡ Some reader
      → HasParts h (set r.meta.readers n (Some (fresh r.last.index r.generation))) (stack r.meta.free) r.meta.used → Runs slots (unread_place r reader) (unread_count r reader) r.last.size v
      → (ledger.handed (handed-events v), ledger_with r.instance r.slots slots r.last.index r.last.size r.generation h.readers (stack h.free) h.used)
      ≡ outcome L (ledger.read (length slots) r.instance n)
  read-hands n reader h v same at p runs =
      let wide : r.last.size ≤ length slots = omega (arith, r.room) in
      let live : ledger.Open L n = open_at_of slots r.last.index r.last.size r.generation r.meta.readers n ∙ ap is_some at in
      let list : ledger.waiting_for L n ≡ waiting_in slots r.last.index r.last.size r.generation reader =
      ap ledger.unread (reader_at_of slots r.last.index r.last.size r.generation r.meta.readers n ∙ ap (reader_of slots r.last.index r.last.size r.generation) at) in
      let handed : handed-events v ≡ waiting_in slots r.last.index r.last.size r.generation reader =
      rw (runs.first, runs.second) (runs_unread slots r.last.index r.last.size r.generation reader (unread_place r reader) wide r.last.within (r.places n reader at) (r.level n reader at) refl) in
      let left = ledger-parts r.instance r.slots slots r.last.index r.last.size r.generation h _ _ _ p
      ∙ ap (λ (rs : List (ledger.Reader E)). ledger.with_readers L rs L.freed L.used) (set-fresh slots r.last.index r.last.size r.generation r.meta.readers n r.last.within) in
      same_answer (handed-events v) (ledger.waiting_for L n) _ (ledger.after_read L n) (handed ∙ sym list) left
      ∙ accepted-is L (ledger.read (length slots) r.instance n) (suffices L (ledger.read (length slots) r.instance n) (same, refl, live))

-- the same view, of the same figures
pub same_runs : {E : Type 0} (slots : List E) (from at count many size round : ℕ) (v : View E) → from ≡ at → count ≡ many → size ≡ round → Runs slots from count size v → Runs slots at many round v
same_runs slots from at count many size round v e f g h = rw (← e, ← f, ← g) h
