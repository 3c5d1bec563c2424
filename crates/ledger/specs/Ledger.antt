-- The ledger: what an event channel answers, in the terms of its users. Assumes nothing.
use Rattle.std.specs.Prelude.{◌≡◌, ℕ, zero, suc, ◌+◌, ◌*◌, ◌≤◌, max, Bool, true, false, cond, not, ◌&&◌, ◌||◌, List, [], ◌∷◌, ◌++◌, map, length, replicate, Some, None, Option, ◌==◌, nat_le, nat_lt, slice_index_or, slice_set}

-- how many readers may be open at once; their numbers are 0 up to this, itself excluded
abbrev pub most_readers : ℕ
most_readers = 64

-- what one reader number stands for: a closed number, or an open reader with the events that it has not read
pub data Reader (E : Type 0) : Type 0 where
  shut : Reader E
  waiting : List E → Reader E

pub record Ledger (E : Type 0) : Type 0 where
  pub instance : ℕ
  pub size : ℕ
  pub slots : ℕ
  -- one for each reader number
  pub readers : List (Reader E)
  -- a stack, the latest freed number first
  pub freed : List ℕ
  -- how many numbers were ever given out
  pub used : ℕ

pub data Call (E : Type 0) : Type 0 where
  register : Call E
  -- the count of the slots that are handed in, and the events that the source means
  write : ℕ → List E → Call E
  -- the count of the slots that are handed in, and the id's instance number and reader number
  read : ℕ → ℕ → ℕ → Call E
  -- the id's instance number and reader number
  close : ℕ → ℕ → Call E

-- what an accepted write answers: the count of its events, and the size afterwards
pub record Written : Type 0 where
  pub count : ℕ
  pub size : ℕ

pub data Answer (E : Type 0) : Type 0 where
  refused : ℕ → Answer E
  registered : ℕ → Answer E
  wrote : Written → Answer E
  handed : List E → Answer E
  closed : Answer E

-- the number of the first condition that holds, in a table of numbers and conditions
abbrev pub first : List (ℕ × Bool) → Option ℕ
first [] = None
first (row ∷ rows) = cond row.1 (Some row.0) (first rows)

-- Sizes

-- size doubled once, and again until it is at least need; `more` bounds how often again
unfoldable pub doubled : ℕ → ℕ → ℕ → ℕ
doubled zero size need = 2 * size
doubled (suc more) size need = cond (nat_le need (2 * size)) (2 * size) (doubled more (2 * size) need)

-- the size where it is at least need, else the smallest of 2, 4, 8 and so on times size that is
unfoldable pub size_for : ℕ → ℕ → ℕ
size_for size need = cond (nat_le need size) size (doubled need size need)

-- Openings

-- the number of an opening's refusal, where one of its conditions holds: of the issuer's next number, the size and the
-- count of slots
abbrev pub opening_refusal : ℕ → ℕ → ℕ → Option ℕ
opening_refusal next size slots =
    first (
    (1, nat_lt size 2)
    ∷ (2, nat_lt 1048576 slots)
    ∷ (3, nat_lt slots size)
    ∷ (12, nat_lt 4294967295 next)
    ∷ []
    )

-- what an opening answers: the number of its refusal, or what it grants
pub data Opened (A : Type 0) : Type 0 where
  denied : ℕ → Opened A
  granted : A → Opened A

-- the figures of an accepted opening
pub record Opening : Type 0 where
  pub instance : ℕ
  pub size : ℕ
  pub slots : ℕ
  pub smallest : 2 ≤ size
  pub most : slots ≤ 1048576
  pub room : size ≤ slots
  pub issued : instance ≤ 4294967295

module _ {E : Type 0} where
  -- a channel just opened: every number is shut, none freed and none used
  abbrev pub fresh : ℕ → ℕ → ℕ → Ledger E
  fresh instance size slots = record { instance = instance; size = size; slots = slots; readers = replicate most_readers shut; freed = []; used = 0 }

  abbrev pub just_opened : Opening → Ledger E
  just_opened o = fresh o.instance o.size o.slots

  -- an accepted opening takes the issuer's next number as its instance number
  abbrev pub opened : ℕ → ℕ → ℕ → Opened (Ledger E)
  opened next size slots =
      elim (opening_refusal next size slots) [ Some n ↦ denied n | None ↦ granted (fresh next size slots) ]

-- Readers

module _ {E : Type 0} where
  abbrev pub is_open : Reader E → Bool
  is_open shut = false
  is_open (waiting xs) = true

  abbrev pub unread : Reader E → List E
  unread shut = []
  unread (waiting xs) = xs

  -- new events join the end of an open reader's list
  abbrev pub joined_by : List E → Reader E → Reader E
  joined_by new shut = shut
  joined_by new (waiting xs) = waiting (xs ++ new)

  abbrev pub open_count : List (Reader E) → ℕ
  open_count [] = 0
  open_count (r ∷ rs) = cond (is_open r) 1 0 + open_count rs

  abbrev pub any_open : List (Reader E) → Bool
  any_open [] = false
  any_open (r ∷ rs) = is_open r || any_open rs

  -- the length of the longest unread list
  abbrev pub longest : List (Reader E) → ℕ
  longest [] = 0
  longest (r ∷ rs) = max (length (unread r)) (longest rs)

  -- what reader number n stands for; every number past the last is shut
  abbrev pub reader_at : Ledger E → ℕ → Reader E
  reader_at l n = slice_index_or l.readers n shut

  -- the events that wait for reader n
  abbrev pub waiting_for : Ledger E → ℕ → List E
  waiting_for l n = unread (reader_at l n)

  abbrev pub Open : Ledger E → ℕ → Type 0
  Open l n = is_open (reader_at l n) ≡ true

  -- whether a write would reach anybody: a reader is open
  abbrev pub would_write : Ledger E → Bool
  would_write l = any_open l.readers

-- Registering takes the latest freed number, else the next unused one. Of the stack of freed numbers and the count of
-- those used: the number taken, what is left of the stack, and the count then.
abbrev pub number_taken : List ℕ → ℕ → ℕ
number_taken [] used = used
number_taken (n ∷ freed) used = n

abbrev pub freed_left : List ℕ → List ℕ
freed_left [] = []
freed_left (n ∷ freed) = freed

abbrev pub used_then : List ℕ → ℕ → ℕ
used_then [] used = used + 1
used_then (n ∷ freed) used = used

-- What each accepted call leaves

module _ {E : Type 0} where
  abbrev pub with_readers : Ledger E → List (Reader E) → List ℕ → ℕ → Ledger E
  with_readers l readers freed used =
      record { instance = l.instance; size = l.size; slots = l.slots; readers = readers; freed = freed; used = used }

  abbrev pub next_number : Ledger E → ℕ
  next_number l = number_taken l.freed l.used

  -- the number taken is open, with nothing unread
  abbrev pub after_register : Ledger E → Ledger E
  after_register l = with_readers l (slice_set l.readers (next_number l) (waiting [])) (freed_left l.freed) (used_then l.freed l.used)

  -- the longest unread list and the new events
  abbrev pub need : Ledger E → List E → ℕ
  need l new = longest l.readers + length new

  -- the size fits the need, and the new events join the end of every unread list
  abbrev pub with_events : Ledger E → List E → Ledger E
  with_events l new =
      record {
        instance = l.instance;
        size = size_for l.size (need l new);
        slots = l.slots;
        readers = map (joined_by new) l.readers;
        freed = l.freed;
        used = l.used;
      }

  abbrev pub is_empty : List E → Bool
  is_empty [] = true
  is_empty (x ∷ xs) = false

  -- an empty write changes nothing, nor does one while no reader is open
  abbrev pub changes : Ledger E → List E → Bool
  changes l new = not (is_empty new) && would_write l

  abbrev pub after_write : Ledger E → List E → Ledger E
  after_write l new = cond (changes l new) (with_events l new) l

  abbrev pub written : Ledger E → List E → Written
  written l new = record { count = length new; size = (after_write l new).size }

  -- the reader's list is handed over, and is empty then
  abbrev pub after_read : Ledger E → ℕ → Ledger E
  after_read l n = with_readers l (slice_set l.readers n (waiting [])) l.freed l.used

  -- the number is shut, and on top of the stack
  abbrev pub after_close : Ledger E → ℕ → Ledger E
  after_close l n = with_readers l (slice_set l.readers n shut) (n ∷ l.freed) l.used

  -- an accepted call: its answer, and the ledger afterwards
  abbrev pub taken : Ledger E → Call E → Answer E × Ledger E
  taken l register = (registered (next_number l), after_register l)
  taken l (write slots new) = (wrote (written l new), after_write l new)
  taken l (read slots instance n) = (handed (waiting_for l n), after_read l n)
  taken l (close instance n) = (closed, after_close l n)

-- Refusals, and what every call answers

module _ {E : Type 0} where
  -- the slots handed in are of another count than the opening's
  abbrev pub other_slots : Ledger E → ℕ → Bool
  other_slots l slots = not (slots == l.slots)

  -- the id bears another instance number
  abbrev pub other_channel : Ledger E → ℕ → Bool
  other_channel l instance = not (instance == l.instance)

  -- the reader number is not open
  abbrev pub not_open : Ledger E → ℕ → Bool
  not_open l n = not (is_open (reader_at l n))

  -- the number of a call's refusal, where one of its conditions holds
  abbrev pub refusal : Ledger E → Call E → Option ℕ
  refusal l register = first ((4, nat_le most_readers (open_count l.readers)) ∷ [])
  refusal l (write slots new) =
      first (
      (5, other_slots l slots)
      ∷ (8, not (would_write l) && nat_lt l.size (length new))
      ∷ (9, would_write l && nat_lt l.slots (after_write l new).size)
      ∷ []
      )
  refusal l (read slots instance n) = first ((5, other_slots l slots) ∷ (6, other_channel l instance) ∷ (7, not_open l n) ∷ [])
  refusal l (close instance n) = first ((6, other_channel l instance) ∷ (7, not_open l n) ∷ [])

  -- a refused call answers its number and leaves the ledger as it is
  abbrev pub decided : Option ℕ → Ledger E → Answer E × Ledger E → Answer E × Ledger E
  decided (Some n) l done = (refused n, l)
  decided None l done = done

  abbrev pub outcome : Ledger E → Call E → Answer E × Ledger E
  outcome l c = decided (refusal l c) l (taken l c)
