-- Room for new events, from the table of readers to the ledger's rule.
use Rattle.std.proofs.Common.{◌≡◌, ℕ, ◌+◌, ◌-◌, ◌*◌, ◌%◌, ◌<◌, ◌≤◌, Bool, true, false, eqb, List, length, is_some, Some, None, Option, sym, refl, ap, ◌∙◌, subst, ⊎_elim, arith}
use Rattle.std.proofs.lemmas.Bool.{cases_lt, lt-ltb, le-ltb, lt-leb, eq-eqb, ne_eqb}
use Rattle.ledger.specs.Ledger.{Ledger, would_write, size_for, longest}
use Rattle.ledger.proofs.Readers.{longest-shut}
use Rattle.ledger.proofs.Sizes.{size_laws, size-doubles}
use Rattle.storage.specs.declared.reader.Reader.{Reader}
use Rattle.storage.specs.declared.ring.RingBuffer.{RingBuffer}
use Rattle.storage.specs.Registry.{most, Nearest, entry, Shut, Each, distance}
use Rattle.storage.specs.Ledgers.{ledger_of}
use Rattle.storage.specs.Slots.{waiting_in, grown}
use Rattle.storage.specs.Kept.{Ahead}
use Rattle.storage.specs.declared.circular.CircularIndex.{CircularIndex}
use Rattle.storage.specs.Writes.{size_then, no_room, with_size, available_then, Room}
use Rattle.storage.proofs.Distances.{distance-le}
use Rattle.storage.proofs.Entries.{clash, not_open, live-within}
use Rattle.storage.proofs.Lifts.{none_open_of, some_open_of, longest-below, longest-above}
use Rattle.storage.proofs.Waiting.{length-waiting_in}

-- a doubled size is at least twice the old one
pub twice_at_least : (size need : ℕ) → 1 ≤ size → size < need → size + size ≤ size_for size need
twice_at_least size need some more =
    let e = size-doubles size need some more in omega (arith, size_laws.never_smaller (2 * size) need (omega arith), e)

module _ {E : Type 0} (r : RingBuffer E) (slots : List E) (own : length slots ≡ r.slots) where
  abbrev rs : List (Option Reader)
  rs = r.meta.readers

  abbrev far : Reader → ℕ
  far = distance r.last.index r.last.size r.generation

  abbrev L : Ledger E
  L = ledger_of r slots

  room : r.last.size ≤ length slots
  room = omega (arith, r.room, own)

  unread-length : (e : Reader) → length (waiting_in slots r.last.index r.last.size r.generation e) ≡ r.last.size - far e
  unread-length e = length-waiting_in slots r.last.size room r.last.index r.generation e r.last.within

  -- so many events fit where nobody is nearer
  pub fits-as_is : (num : ℕ) → Each (λ e. num ≤ far e) rs → num ≤ r.last.size → (no_room L num ≡ None) × (size_then L num ≡ r.last.size)
  fits-as_is num clear small = go (would_write L) refl
    where
      short : longest L.readers + num ≤ r.last.size
      short =
          let bound = longest-below slots r.last.index r.last.size r.generation rs (r.last.size - num) (λ k e is. rw (unread-length e) (omega (arith, clear k e is))) in
          omega (arith, bound)

      go : (b : Bool) → would_write L ≡ b → (no_room L num ≡ None) × (size_then L num ≡ r.last.size)
      go true e =
          let same : size_for r.last.size (longest L.readers + num) ≡ r.last.size = size_laws.stays r.last.size (longest L.readers + num) short in
          (rw (e, same, le-ltb r.slots r.last.size r.room), rw (e, same))
      go false e = (rw (e, le-ltb r.last.size num small), rw e)

  -- nobody is open
  pub nobody : Nearest far rs most None → (k : ℕ) → Shut rs k
  nobody near k =
      ⊎_elim (λ (lt : k < most). near k lt)
      (λ (le : most ≤ k). not_open (entry rs k) (λ lv. let w = live-within rs k lv in omega (arith, w, r.meta.long)))
      (cases_lt k most)

  pub nobody_open : Nearest far rs most None → would_write L ≡ false
  nobody_open near = none_open_of slots r.last.index r.last.size r.generation rs (nobody near)

  pub too_long : (num : ℕ) → Nearest far rs most None → r.last.size < num → no_room L num ≡ Some 8
  too_long num near more = rw (nobody_open near, lt-ltb r.last.size num more)

  -- somebody is open, and e is the nearest
  pub record Closest (e : Reader) : Type 0 where
    pub number : ℕ
    pub here : entry rs number ≡ Some e
    pub all : Each (λ s. far e ≤ far s) rs

  pub closest : (i : ℕ) (e : Reader) → Nearest far rs most (Some i) → entry rs i ≡ Some e → Closest e
  closest i e near is =
      let same : near.1 ≡ e = cc near.2 in
      record {
        number = i;
        here = is;
        all = λ k s at. let w = live-within rs k (ap is_some at) in subst (λ x. far x ≤ far s) same (near.3 k s (omega (arith, w, r.meta.long)) at);
      }

  pub somebody_open : (e : Reader) → Closest e → would_write L ≡ true
  somebody_open e near = some_open_of slots r.last.index r.last.size r.generation rs near.number (ap is_some near.here)

  -- it has the longest list
  pub longest-is : (e : Reader) → Closest e → longest L.readers ≡ r.last.size - far e
  longest-is e near =
      let below = longest-below slots r.last.index r.last.size r.generation rs (r.last.size - far e) (λ k s is. rw (unread-length s) (omega (arith, near.all k s is))) in
      let above = longest-above slots r.last.index r.last.size r.generation rs near.number e near.here in
      omega (arith, below, above, unread-length e)

  pub too_large : (num : ℕ) (e : Reader) → Closest e → r.slots < size_for r.last.size (r.last.size - far e + num) → no_room L num ≡ Some 9
  too_large num e near more = rw (somebody_open e near, longest-is e near, lt-ltb r.slots (size_for r.last.size (r.last.size - far e + num)) more)

  pub fits-grown : (num : ℕ) (e : Reader) → Closest e → size_for r.last.size (r.last.size - far e + num) ≤ r.slots
      → (no_room L num ≡ None) × (size_then L num ≡ size_for r.last.size (r.last.size - far e + num))
  fits-grown num e near less = (
    rw (somebody_open e near, longest-is e near, le-ltb r.slots (size_for r.last.size (r.last.size - far e + num)) less),
    rw (somebody_open e near, longest-is e near),
  )

  -- a ring that needs no growth has room as it is
  pub as_it_is : (num : ℕ) (t : RingBuffer E) → Each (λ e. num ≤ far e) rs → num ≤ r.last.size → num ≤ t.available → t.available ≡ available_then r L num
      → t.instance ≡ r.instance → t.last ≡ r.last → t.slots ≡ r.slots → t.generation ≡ r.generation → t.meta ≡ r.meta → Room r t slots slots num
  as_it_is num t clear small enough a i l n g m =
      let fits = fits-as_is num clear small in
      record {
        unrefused = fits.0;
        enough = enough;
        available = a;
        ledger = rw (i, l, n, g, m, fits.1);
        last = ap (λ (x : CircularIndex). x.index) l;
        generation = g;
        slots = rw (l, eq-eqb r.last.size r.last.size refl);
      }

  -- once the readers were looked at, what the longest list leaves is available
  pub looked_at : (num left new : ℕ) → r.available < num → size_then L num ≡ new → new - longest L.readers ≡ left → left ≡ available_then r L num
  looked_at num left new short size is = sym is ∙ sym (rw (lt-leb num r.available short, size))

  pub nobody_available : (num : ℕ) → Nearest far rs most None → r.available < num → num ≤ r.last.size → r.last.size ≡ available_then r L num
  nobody_available num near short small =
      let none = longest-shut L.readers (nobody_open near) in
      looked_at num r.last.size r.last.size short (fits-as_is num (λ k e is. clash (entry rs k) e (nobody near k) is) small).1 (omega arith)

  -- the distance of the nearest is room before everybody
  pub nearest_ahead : (e : Reader) (left : ℕ) → Closest e → left ≡ far e → Ahead rs r.last.index r.last.size r.generation left
  nearest_ahead e left near same k s is = omega (arith, near.all k s is, same)

  pub nearest_least : (e : Reader) (left : ℕ) → Closest e → left ≡ far e → left ≤ r.last.size
  nearest_least e left near same = omega (arith, same, distance-le r.last.index r.last.size r.generation e r.last.within (r.places near.number e near.here))

  pub somebody_available : (num : ℕ) (e : Reader) (left : ℕ) → Closest e → left ≡ far e → r.available < num → num ≤ left → left ≡ available_then r L num
  somebody_available num e left near same short enough =
      let least = nearest_least e left near same in
      let ahead = nearest_ahead e left near same in
      looked_at num left r.last.size short (fits-as_is num (λ k s is. omega (arith, ahead k s is)) (omega arith)).1 (omega (arith, longest-is e near, same))

  -- room after growth to the ledger's size
  pub grown-room : (num : ℕ) (e : Reader) (left new : ℕ) (t : RingBuffer E) (after : List E) → Closest e → left ≡ far e → r.available < num → left < num
      → new ≡ size_for r.last.size (r.last.size - left + num) → new ≤ r.slots
      → t.available ≡ left + (new - r.last.size) → t.last.index ≡ r.last.index → t.generation ≡ r.generation
      → after ≡ grown slots ((r.last.index + 1) % r.last.size) r.last.size (new - r.last.size)
      → ledger_of t after ≡ with_size L (r.last.size + (new - r.last.size))
      → Room r t slots after num
  grown-room num e left new t after near far_is few short is less a l g s led =
      let need : ℕ = r.last.size - left + num in
      let same : size_for r.last.size (r.last.size - far e + num) ≡ new = ap (λ d. size_for r.last.size (r.last.size - d + num)) (sym far_is) ∙ sym is in
      let fits = fits-grown num e near (omega (arith, same, less)) in
      let held = size_laws.enough r.last.size need (omega (arith, r.small)) in
      let least = nearest_least e left near far_is in
      let more : r.last.size < new = omega (arith, held, is) in
      let sum : r.last.size + (new - r.last.size) ≡ new = omega arith in
      let now_size : t.last.size ≡ new = ap (λ (x : Ledger E). x.size) led ∙ sum in
      let other : eqb t.last.size r.last.size ≡ false = ne_eqb t.last.size r.last.size (λ z. omega arith) in
      record {
        unrefused = fits.0;
        enough = omega (arith, held, is);
        available = a ∙ looked_at num (left + (new - r.last.size)) new few (fits.1 ∙ same) (omega (arith, longest-is e near, far_is));
        ledger = led ∙ ap (λ n. with_size L n) (sum ∙ sym (fits.1 ∙ same));
        last = l;
        generation = g;
        slots = s ∙ rw (other) (ap (λ n. grown slots ((r.last.index + 1) % r.last.size) r.last.size (n - r.last.size)) (sym now_size));
      }
