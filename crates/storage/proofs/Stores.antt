-- Storing, from the slots to the ledger's readers.
use Rattle.std.proofs.Common.{◌≡◌, ℕ, ◌+◌, ◌-◌, ◌%◌, ◌^◌, ◌<◌, ◌≤◌, ◌≢◌, List, map, length, drop, Some, Option, sym, refl, ap, ◌∙◌, subst, arith}
use Rattle.std.specs.Option.{option_map}
use mathlib.Core.List.{map-map}
use Rattle.ledger.specs.Ledger as ledger
use Rattle.ledger.specs.Ledger.{Ledger}
use Rattle.storage.specs.declared.circular.CircularIndex.{CircularIndex}
use Rattle.storage.specs.declared.reader.Reader.{Reader}
use Rattle.storage.specs.Registry.{distance, shifted, Each}
use Rattle.storage.specs.Kept.{lag, Ahead}
use Rattle.storage.specs.declared.reader.ReaderMeta.{ReaderMeta}
use Rattle.storage.specs.Meta.{HasParts}
use Rattle.storage.specs.Freed.{stack}
use Rattle.storage.specs.Slots.{recent, stored, last_after, grown}
use Rattle.storage.specs.declared.ring.RingBuffer.{RingBuffer}
use Rattle.storage.specs.Ledgers.{reader_of, ledger_with, ledger_of}
use Rattle.storage.specs.Writes.{with_size, with_joined}
use Rattle.storage.proofs.Distances.{distance-le, distance-stored, distance-grown, agree_grown, place_grown}
use Rattle.storage.proofs.Each.{Fine, Facts, facts, fine_of}
use Rattle.storage.proofs.Entries.{each_map}
use Rattle.storage.proofs.Generations.{lag-raised, raised-apart}
use Rattle.storage.proofs.Lifts.{map-entries}
use Rattle.storage.proofs.Numbering.{ledger-parts}
use Rattle.storage.proofs.Shifts.{shifted-generation}
use Rattle.storage.proofs.Storing.{waiting-stored}
use Rattle.storage.proofs.Growing.{waiting-grown}

-- what a ring keeps of one open reader, where storing and growth have room
pub record Fit (last size generation available : ℕ) (r : Reader) : Type 0 where
  pub below : last < size
  pub few : size ≤ 1048576
  pub fits : generation < 2 ^ 64
  pub fine : Fine last size generation available r

-- n events are stored, and the generation is raised
module _ (last size generation available n : ℕ) (some : 1 ≤ n) (enough : n ≤ available) where
  abbrev raised : ℕ
  raised = (generation + 1) % 2 ^ 64

  little_lag : (r : Reader) → Fit last size generation available r → lag generation r.generation + 1 < 2 ^ 64
  little_lag r t = omega (arith, t.fine.lags, t.few)

  apart : (r : Reader) → Fit last size generation available r → r.generation ≢ raised
  apart r t = raised-apart generation r.generation t.fits t.fine.bounded (little_lag r t)

  pub distance-then : (r : Reader) → Fit last size generation available r → distance (last_after size last n) size raised r ≡ distance last size generation r - n
  distance-then r t =
      let far : n ≤ distance last size generation r = omega (arith, t.fine.ahead) in
      distance-stored last size generation raised n r t.below t.fine.place some far (apart r t)

  pub stored-fine : (r : Reader) → Fit last size generation available r → Fine (last_after size last n) size raised (available - n) r
  stored-fine r t =
      let then = distance-then r t in
      record {
        ahead = omega (arith, t.fine.ahead);
        place = t.fine.place;
        bounded = t.fine.bounded;
        lags = omega (arith, t.fine.ahead, t.fine.lags, distance-le last size generation r t.below t.fine.place, lag-raised generation r.generation t.fits t.fine.bounded (little_lag r t));
        level = λ e. absurd (apart r t e);
      }

-- the events join the end of every unread list
module _ {E : Type 0} (slots : List E) (last size generation available : ℕ) (room : size ≤ length slots) (xs : List E) (some : 1 ≤ length xs) (enough : length xs ≤ available) where
  abbrev newest : ℕ
  newest = last_after size last (length xs)

  abbrev new : Option Reader → ledger.Reader E
  new = reader_of (stored slots size last xs) newest size ((generation + 1) % 2 ^ 64)

  joins : (r : Reader) → Fit last size generation available r → new (Some r) ≡ ledger.joined_by xs (reader_of slots last size generation (Some r))
  joins r t =
      let far : length xs ≤ distance last size generation r = omega (arith, t.fine.ahead) in
      let most = distance-le last size generation r t.below t.fine.place in
      ap (λ d. ledger.waiting (drop d (recent (stored slots size last xs) size (newest + 1)))) (distance-then last size generation available (length xs) some enough r t)
      ∙ ap ledger.waiting (waiting-stored xs slots size last (distance last size generation r) t.below room far most)

  pub stored-readers : (rs : List (Option Reader)) → Each (Fit last size generation available) rs → map new rs ≡ map (ledger.joined_by xs) (map (reader_of slots last size generation) rs)
  stored-readers rs t =
      map-entries new (λ o. ledger.joined_by xs (reader_of slots last size generation o)) rs refl (λ k r is. joins r (t k r is))
      ∙ sym (map-map (ledger.joined_by xs) (reader_of slots last size generation) rs)

-- growth by g: each distance rises by g, and so does the size
module _ (last size generation available g : ℕ) (some : 1 ≤ g) where
  pub grown-fine : (left : ℕ) (r : Reader) → Fit last size generation available r → left ≤ distance last size generation r
      → Fine last (size + g) generation (left + g) (shifted last generation g r)
  grown-fine left r t ahead =
      let grows = distance-grown last size generation g r t.below t.fine.place some in
      let same = shifted-generation last generation g r in
      let was : lag generation (shifted last generation g r).generation ≤ size - distance last size generation r =
      subst (λ n. lag generation n ≤ size - distance last size generation r) (sym same) t.fine.lags in
      record {
        ahead = omega arith;
        place = place_grown last size generation g r t.fine.place;
        bounded = rw same t.fine.bounded;
        lags = omega arith;
        level = agree_grown last size generation g r t.fine.level;
      }

-- what waits for each reader stays
module _ {E : Type 0} (slots : List E) (last size generation available g : ℕ) (double : size ≤ g) (room : size + g ≤ length slots) where
  abbrev after : Option Reader → ledger.Reader E
  after = reader_of (grown slots ((last + 1) % size) size g) last (size + g) generation

  stays : (r : Reader) → Fit last size generation available r → after (Some (shifted last generation g r)) ≡ reader_of slots last size generation (Some r)
  stays r t =
      ap (λ d. ledger.waiting (drop d (recent (grown slots ((last + 1) % size) size g) (size + g) (last + 1))))
      (distance-grown last size generation g r t.below t.fine.place (omega (arith, t.below)))
      ∙ ap ledger.waiting (waiting-grown slots last size g (distance last size generation r) t.below room double)

  pub grown-readers : (rs : List (Option Reader)) → Each (Fit last size generation available) rs
      → map after (map (option_map (shifted last generation g)) rs) ≡ map (reader_of slots last size generation) rs
  grown-readers rs t =
      map-map after (option_map (shifted last generation g)) rs
      ∙ map-entries (λ o. after (option_map (shifted last generation g) o)) (reader_of slots last size generation) rs refl (λ k r is. stays r (t k r is))

module _ {E : Type 0} where
  abbrev figures : ℕ → ℕ → ℕ → ℕ → List ℕ → List (ledger.Reader E) → Ledger E
  figures instance count size used freed readers = record { instance = instance; size = size; slots = count; readers = readers; freed = freed; used = used }

module _ {E : Type 0} (r : RingBuffer E) (fits : r.generation < 2 ^ 64) where
  abbrev last : ℕ
  last = r.last.index

  abbrev size : ℕ
  size = r.last.size

  abbrev meta : ReaderMeta
  meta = r.meta

  pub all_fit : Each (Fit last size r.generation r.available) meta.readers
  all_fit k e is = record { below = r.last.within; few = r.last.small; fits = fits; fine = fine_of r k e is }

  -- growth keeps what a ring keeps
  pub grown-facts : (rs : List (Option Reader)) (then : CircularIndex) (g left : ℕ) → rs ≡ map (option_map (shifted last r.generation g)) meta.readers → then.index ≡ last → then.size ≡ size + g
      → size ≤ g → size + g ≤ r.slots → left ≤ size → Ahead meta.readers last size r.generation left → Facts (left + g) then.index then.size r.slots r.generation rs
  grown-facts rs then g left e at is double wide least ahead =
      let some : 1 ≤ g = omega (arith, r.small) in
      let moved : List (Option Reader) = map (option_map (shifted last r.generation g)) meta.readers in
      let fine = each_map (shifted last r.generation g) (Fine last (size + g) r.generation (left + g)) meta.readers
      (λ k x here. grown-fine last size r.generation r.available g some left x (all_fit k x here) (ahead k x here)) in
      rw (e, at, is) (
      facts (left + g) last (size + g) r.slots r.generation moved (omega (arith, r.small)) wide r.few (omega arith)
      fine)

  -- and changes the ledger's size alone
  pub grown-ledger : (old new : List E) (h : ReaderMeta) (then : CircularIndex) (g : ℕ)
      → HasParts h (map (option_map (shifted last r.generation g)) meta.readers) (stack meta.free) meta.used → then.index ≡ last → then.size ≡ size + g
      → new ≡ grown old ((last + 1) % size) size g → size ≤ g → size + g ≤ length old
      → ledger_with r.instance r.slots new then.index then.size r.generation h.readers (stack h.free) h.used ≡ with_size (ledger_of r old) (size + g)
  grown-ledger old new h then g p at is s double room =
      rw (at, is, s) (ledger-parts r.instance r.slots (grown old ((last + 1) % size) size g) last (size + g) r.generation h _ _ _ p
      ∙ ap (figures r.instance r.slots (size + g) meta.used (stack meta.free)) (grown-readers old last size r.generation r.available g double room meta.readers all_fit))

  -- storing keeps what a ring keeps
  pub stored-facts : (then : CircularIndex) (n : ℕ) → then.index ≡ last_after size last n → then.size ≡ size → 1 ≤ n → n ≤ r.available
      → Facts (r.available - n) then.index then.size r.slots ((r.generation + 1) % 2 ^ 64) meta.readers
  stored-facts then n at is some enough =
      rw (at, is) (
      facts (r.available - n) (last_after size last n) size r.slots ((r.generation + 1) % 2 ^ 64) meta.readers r.small r.room r.few (omega (arith, r.spare))
      (λ k x here. stored-fine last size r.generation r.available n some enough x (all_fit k x here)))

  -- and joins the events to every unread list
  pub stored-ledger : (old new : List E) (then : CircularIndex) (xs : List E)
      → new ≡ stored old size last xs → then.index ≡ last_after size last (length xs) → then.size ≡ size → 1 ≤ length xs → length xs ≤ r.available → size ≤ length old
      → ledger_with r.instance r.slots new then.index then.size ((r.generation + 1) % 2 ^ 64) meta.readers (stack meta.free) meta.used ≡ with_joined (ledger_of r old) xs
  stored-ledger old new then xs s at is some enough room =
      rw (at, is) refl
      ∙ ap (λ ys. ledger_with r.instance r.slots ys (last_after size last (length xs)) size ((r.generation + 1) % 2 ^ 64) meta.readers (stack meta.free) meta.used) s
      ∙ ap (figures r.instance r.slots size meta.used (stack meta.free)) (stored-readers old last size r.generation r.available room xs some enough meta.readers all_fit)
