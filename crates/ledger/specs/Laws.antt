-- The laws of the ledger, over single calls and over whole histories. Assumes nothing.
use Rattle.std.specs.Prelude.{◌≡◌, ℕ, suc, ◌*◌, ◌^◌, ◌<◌, ◌≤◌, true, false, ◌↔◌, List, [], ◌∷◌, ◌++◌, length, Some, None}
use Rattle.std.specs.List.{AllByRecursion}
use Rattle.ledger.specs.Ledger.{Ledger, Call, Opening, shut, waiting, most_readers, opening_refusal, opened, denied, granted, just_opened, size_for, open_count, reader_at, waiting_for, is_open, Open, would_write, after_write, refusal, outcome}
use Rattle.ledger.specs.Ledger.Call.{register, write, read, close}
use Rattle.ledger.specs.Ledger.Answer.{refused, registered, wrote, closed}
use Rattle.ledger.specs.Sound.{Sound}
use Rattle.ledger.specs.Histories.{Entry, Told, after, accepted, handed_to, registration, Never, Closes, Writes, History, at_end, ReaderOf, total, accepted_to_read, accepted_since, OpenAtEnd}

-- Sizes

-- new is the smallest of 2, 4, 8 and so on times size that is at least need
pub record SmallestDoubling (size need new : ℕ) : Type 0 where
  pub more : ℕ
  pub is : new ≡ 2 ^ suc more * size
  pub enough : need ≤ new
  pub least : (k : ℕ) → need ≤ 2 ^ suc k * size → new ≤ 2 ^ suc k * size

-- a size that is at least the need stays, and any other becomes the smallest doubling
abbrev pub SizeRule : Type 0
SizeRule = (size need : ℕ) → 1 ≤ size → (need ≤ size → size_for size need ≡ size) × (size < need → SmallestDoubling size need (size_for size need))

-- what everything else rests on, whatever the rule for the new size
pub record SizeLaws : Type 0 where
  pub enough : (size need : ℕ) → 1 ≤ size → need ≤ size_for size need
  pub never_smaller : (size need : ℕ) → 1 ≤ size → size ≤ size_for size need
  pub stays : (size need : ℕ) → need ≤ size → size_for size need ≡ size
  -- to one need and then to a larger one is to the larger one at once
  pub in_steps : (size need more : ℕ) → 1 ≤ size → need ≤ more → size_for (size_for size need) more ≡ size_for size more

-- Single calls

-- these are the figures of an accepted opening
abbrev pub Figures : ℕ → ℕ → ℕ → Type 0
Figures instance size slots = (o : Opening) × (o.instance ≡ instance) × (o.size ≡ size) × (o.slots ≡ slots)

-- an opening is unrefused exactly with the figures of an `Opening`, and is granted a fresh ledger with them; any other is
-- denied by its number
pub record Openings (E : Type 0) : Type 0 where
  pub unrefused : (next size slots : ℕ) → (opening_refusal next size slots ≡ None) ↔ Figures next size slots
  pub denies : (next size slots k : ℕ) → (opened {E = E} next size slots ≡ denied k) ↔ (opening_refusal next size slots ≡ Some k)
  pub grants : (o : Opening) → opened {E = E} o.instance o.size o.slots ≡ granted (just_opened o)

-- a write would reach somebody exactly when some number is open
abbrev pub WouldWrite : Type 0 → Type 0
WouldWrite E = (l : Ledger E) → (would_write l ≡ true) ↔ ((n : ℕ) × Open l n)

-- what a call must meet so as not to be refused
abbrev pub Acceptable : {E : Type 0} → Ledger E → Call E → Type 0
Acceptable l register = open_count l.readers < most_readers
Acceptable l (write slots new) =
    (slots ≡ l.slots) × (would_write l ≡ false → length new ≤ l.size) × (would_write l ≡ true → (after_write l new).size ≤ l.slots)
Acceptable l (read slots instance n) = (slots ≡ l.slots) × (instance ≡ l.instance) × Open l n
Acceptable l (close instance n) = (instance ≡ l.instance) × Open l n

-- a call is refused exactly when it does not meet that; a refusal is its number, and changes nothing
pub record Refusals (E : Type 0) : Type 0 where
  pub unrefused : (l : Ledger E) (c : Call E) → (refusal l c ≡ None) ↔ Acceptable l c
  pub number : (l : Ledger E) (c : Call E) (k : ℕ) → ((outcome l c).0 ≡ refused k) ↔ (refusal l c ≡ Some k)
  pub unchanged : (l : Ledger E) (c : Call E) (k : ℕ) → (outcome l c).0 ≡ refused k → (outcome l c).1 ≡ l

-- a number just closed is the next one given out; a number given out was shut, and is open then with nothing unread
pub record NumbersGiven (E : Type 0) : Type 0 where
  pub latest_first :
      (h : History E) (instance n : ℕ) → (outcome (at_end h) (close instance n)).0 ≡ closed
      → (outcome (outcome (at_end h) (close instance n)).1 register).0 ≡ registered n
  pub from_shut : (h : History E) (n : ℕ) → (outcome (at_end h) register).0 ≡ registered n → (n < most_readers) × (reader_at (at_end h) n ≡ shut)
  pub to_open : (h : History E) (n : ℕ) → (outcome (at_end h) register).0 ≡ registered n → reader_at (outcome (at_end h) register).1 n ≡ waiting []

-- an empty write is accepted, answers no event and the size, and changes nothing
abbrev pub EmptyWrite : Type 0 → Type 0
EmptyWrite E = (h : History E) → outcome (at_end h) (write (at_end h).slots []) ≡ (wrote (record { count = 0; size = (at_end h).size }), at_end h)

-- Whole histories

-- every ledger that is reached is sound
pub record StaysSound (E : Type 0) : Type 0 where
  pub at_first : (o : Opening) → Sound {E = E} (just_opened o)
  pub kept : (l : Ledger E) (c : Call E) → Sound l → Sound (outcome l c).1
  pub reached : (h : History E) → Sound (at_end h)

-- over any further calls that do not close an open reader, it stays open, and what it is handed and what waits for it
-- then are what waited before and what was accepted: nothing is lost, doubled or out of order
abbrev pub EachEventOnce : Type 0 → Type 0
EachEventOnce E =
    (h : History E) (es : List (Entry E)) (n : ℕ) → Told (at_end h) es → Open (at_end h) n → Never (Closes n) es
    → Open (after (at_end h) es) n × (handed_to n es ++ waiting_for (after (at_end h) es) n ≡ waiting_for (at_end h) n ++ accepted es)

-- a reader was handed what was accepted up to its latest read; where it is open at the end, what was accepted since waits for it
pub record ReaderHolds {E : Type 0} {es : List (Entry E)} (end : Ledger E) (r : ReaderOf es) : Type 0 where
  pub handed_all : total r ≡ accepted_to_read r
  pub still_open : OpenAtEnd r → Open end r.number
  pub waits : OpenAtEnd r → waiting_for end r.number ≡ accepted_since r

abbrev pub ReadersHold : Type 0 → Type 0
ReadersHold E = (h : History E) (r : ReaderOf h.entries) → ReaderHolds (at_end h) r

-- every accepted registration begins a reader's life, and one only; every number open at the end is that of a reader open at the end
pub record Registrations (E : Type 0) : Type 0 where
  pub found : (es earlier rest : List (Entry E)) (n : ℕ) → es ≡ earlier ++ registration n ∷ rest → (r : ReaderOf es) × (r.number ≡ n) × (r.earlier ≡ earlier)
  pub one : (es : List (Entry E)) (r s : ReaderOf es) → length r.earlier ≡ length s.earlier → (r.number ≡ s.number) × (r.life ≡ s.life) × (r.last.through ≡ s.last.through)
  pub open_one : (h : History E) (n : ℕ) → Open (at_end h) n → (r : ReaderOf h.entries) × (r.number ≡ n) × OpenAtEnd r

-- two readers, of one history or of two, have equal totals exactly when equal events were accepted from each one's
-- registration to its latest read
abbrev pub EqualTotals : Type 0 → Type 0
EqualTotals E =
    (h k : History E) (r : ReaderOf h.entries) (s : ReaderOf k.entries)
    → (total r ≡ total s) ↔ (accepted_to_read r ≡ accepted_to_read s)

-- two readers open at the end of one history have equal lists waiting exactly when equally many events were accepted
-- since each one's latest read
abbrev pub EqualWaiting : Type 0 → Type 0
EqualWaiting E =
    (h : History E) (r s : ReaderOf h.entries) → OpenAtEnd r → OpenAtEnd s
    → (waiting_for (at_end h) r.number ≡ waiting_for (at_end h) s.number) ↔ (length (accepted_since r) ≡ length (accepted_since s))

-- equal channels: equal in size, count of slots, open numbers, each unread list, and the stack of freed numbers
pub record Equal {E : Type 0} (l k : Ledger E) : Type 0 where
  pub size : l.size ≡ k.size
  pub slots : l.slots ≡ k.slots
  pub open_numbers : (n : ℕ) → is_open (reader_at l n) ≡ is_open (reader_at k n)
  pub unread_lists : (n : ℕ) → waiting_for l n ≡ waiting_for k n
  pub freed : l.freed ≡ k.freed

-- a run of accepted writes: any number of them, none included
pub record RunOfWrites {E : Type 0} (l : Ledger E) (es : List (Entry E)) : Type 0 where
  pub told : Told l es
  pub writes : AllByRecursion Writes es

-- a run of accepted writes leaves what one write of their joined events would leave
abbrev pub RunIsOneWrite : Type 0 → Type 0
RunIsOneWrite E =
    (h : History E) (es : List (Entry E)) → RunOfWrites (at_end h) es → after (at_end h) es ≡ after_write (at_end h) (accepted es)

-- two equal channels with a reader open, each after a run of accepted writes, are equal exactly when the joined events of
-- the runs are equal
abbrev pub EqualAfterWrites : Type 0 → Type 0
EqualAfterWrites E =
    (h k : History E) → Equal (at_end h) (at_end k) → (n : ℕ) → Open (at_end h) n
    → (es fs : List (Entry E)) → RunOfWrites (at_end h) es → RunOfWrites (at_end k) fs
    → Equal (after (at_end h) es) (after (at_end k) fs) ↔ (accepted es ≡ accepted fs)
