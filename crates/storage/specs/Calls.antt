-- What a call leaves of a ring beside what the ledger says. Assumes nothing.
use Rattle.std.specs.Prelude.{◌≡◌, ℕ, ◌+◌, ◌-◌, ◌%◌, ◌≤◌, min, List, [], length, Some, Ok, Err, Result, OnErr}
use Rattle.storage.specs.declared.reader.Reader.{Reader}
use Rattle.storage.specs.declared.ring.RingBuffer.{RingBuffer}
use Rattle.storage.specs.declared.view.View.{View}
use Rattle.storage.specs.Registry.{entry, unread}
use Rattle.storage.specs.Slots.{part}

-- a refused call leaves a value as it was
abbrev pub Unchanged : {A F X : Type 0} → Result A F → X → X → Type 0
Unchanged result before after = OnErr result (after ≡ before)

module _ {E : Type 0} where
  pub record SameButReaders (before after : RingBuffer E) : Type 0 where
    pub available : after.available ≡ before.available
    pub last : after.last ≡ before.last
    pub slots : after.slots ≡ before.slots
    pub generation : after.generation ≡ before.generation
    pub instance : after.instance ≡ before.instance

  -- where the events begin that the reader has not read: at the place after its own
  abbrev pub unread_place : RingBuffer E → Reader → ℕ
  unread_place r reader = (reader.place + 1) % r.last.size

  -- and how many they are
  abbrev pub unread_count : RingBuffer E → Reader → ℕ
  unread_count r reader = unread r.last.index r.last.size r.generation reader

  -- a view of so many events from a place: a run up to the ring's end, and one from place 0 where that does not do
  pub record Runs (slots : List E) (from count size : ℕ) (v : View E) : Type 0 where
    pub first : v.first.now ≡ part slots from (min count (size - from))
    pub second : v.second.now ≡ part slots 0 (count - (size - from))
    pub whole : count ≤ size - from → v.second.now ≡ []
    pub left : length v.first.now + length v.second.now ≡ count

  -- a read hands out exactly the unread events' runs
  abbrev pub ReadsRuns : {F : Type 0} → Result (View E) F → RingBuffer E → List E → ℕ → Type 0
  ReadsRuns (Ok v) r slots n =
      (reader : Reader) × (entry r.meta.readers n ≡ Some reader) × Runs slots (unread_place r reader) (unread_count r reader) r.last.size v
  ReadsRuns (Err f) r slots n = Unit {0}
