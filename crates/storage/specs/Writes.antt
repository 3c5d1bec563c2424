-- What a write leaves of ring and slots. Assumes nothing.
use Rattle.std.specs.Prelude.{◌≡◌, ℕ, ◌+◌, ◌-◌, ◌%◌, ◌^◌, ◌≤◌, cond, not, ◌&&◌, List, [], ◌∷◌, ◌++◌, map, length, Some, None, Ok, Err, Option, Result, ◌==◌, nat_le, nat_lt}
use Rattle.source.specs.declared.fault.Fault.{Fault}
use Rattle.source.specs.Faults.{number_of}
use Rattle.ledger.specs.Ledger as ledger
use Rattle.ledger.specs.Ledger.{Ledger, Answer, would_write, size_for, longest, joined_by, first}
use Rattle.storage.specs.declared.ring.RingBuffer.{RingBuffer}
use Rattle.storage.specs.declared.written.Written.{Written}
use Rattle.storage.specs.Slots.{grown, stored, last_after}
use Rattle.storage.specs.Ledgers.{ledger_of}

module _ {E : Type 0} where
  -- the size after so many new events
  abbrev pub size_then : Ledger E → ℕ → ℕ
  size_then l num = cond (would_write l) (size_for l.size (longest l.readers + num)) l.size

  -- what refuses them, where the slots are the channel's
  abbrev pub no_room : Ledger E → ℕ → Option ℕ
  no_room l num = first ((8, not (would_write l) && nat_lt l.size num) ∷ (9, would_write l && nat_lt l.slots (size_then l num)) ∷ [])

  abbrev pub with_size : Ledger E → ℕ → Ledger E
  with_size l size =
      record { instance = l.instance; size = size; slots = l.slots; readers = l.readers; freed = l.freed; used = l.used }

  abbrev pub with_joined : Ledger E → List E → Ledger E
  with_joined l new =
      record { instance = l.instance; size = l.size; slots = l.slots; readers = map (joined_by new) l.readers; freed = l.freed; used = l.used }

  -- the slots after growth from one size to another, the last place being this one
  abbrev pub resized : List E → ℕ → ℕ → ℕ → List E
  resized slots last size new = cond (new == size) slots (grown slots ((last + 1) % size) size (new - size))

  -- how many events can be stored before the readers are looked at again, once there is room for so many: all that could
  -- before, or else what the longest list leaves
  abbrev pub available_then : RingBuffer E → Ledger E → ℕ → ℕ
  available_then r l num = cond (nat_le num r.available) r.available (size_then l num - longest l.readers)

  -- room was made for so many events: the readers wait for what they waited for, in a ring of the right size
  pub record Room (r t : RingBuffer E) (before after : List E) (num : ℕ) : Type 0 where
    pub unrefused : no_room (ledger_of r before) num ≡ None
    pub enough : num ≤ t.available
    pub available : t.available ≡ available_then r (ledger_of r before) num
    pub ledger : ledger_of t after ≡ with_size (ledger_of r before) (size_then (ledger_of r before) num)
    pub last : t.last.index ≡ r.last.index
    pub generation : t.generation ≡ r.generation
    pub slots : after ≡ resized before r.last.index r.last.size t.last.size

  -- the same, or refused by a number, with ring and slots as they were
  abbrev pub Ensured : Result (Unit {0}) Fault → RingBuffer E → RingBuffer E → List E → List E → ℕ → Type 0
  Ensured (Ok _) r t before after num = Room r t before after num
  Ensured (Err f) r t before after num = (no_room (ledger_of r before) num ≡ Some (number_of f)) × (t ≡ r) × (after ≡ before)

  abbrev pub writes : Result Written Fault → Answer E
  writes (Ok w) = ledger.wrote (record { count = w.count; size = w.size })
  writes (Err f) = ledger.refused (number_of f)

  -- ring and slots after a write of these events: grown, then stored one by one; the generation is raised unless there
  -- were none
  pub record Stored (r t : RingBuffer E) (before after : List E) (new : List E) : Type 0 where
    pub slots : after ≡ stored (resized before r.last.index r.last.size t.last.size) t.last.size r.last.index new
    pub last : t.last.index ≡ last_after t.last.size r.last.index (length new)
    pub available : t.available ≡ available_then r (ledger_of r before) (length new) - length new
    pub generation : t.generation ≡ cond (ledger.is_empty new) r.generation ((r.generation + 1) % 2 ^ 64)

  -- a refused write leaves both as they were
  abbrev pub Stores : Result Written Fault → RingBuffer E → RingBuffer E → List E → List E → List E → Type 0
  Stores (Ok w) r t before after new = Stored r t before after new
  Stores (Err f) r t before after new = (t ≡ r) × (after ≡ before)

  -- an accepted write empties its source, and those below lose its events and no others; a refused one draws nothing
  abbrev pub Draws : {S : Type 0} → (S → List E) → (S → List (List E)) → Result Written Fault → S → S → Type 0
  Draws means beneath (Ok w) source left = (means left ≡ []) × (beneath source ≡ map (λ xs. means source ++ xs) (beneath left))
  Draws means beneath (Err f) source left = left ≡ source
