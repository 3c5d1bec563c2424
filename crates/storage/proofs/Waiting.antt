-- How much waits for a reader, and where it lies in the slots.
use Rattle.std.proofs.Common.{◌≡◌, ℕ, ◌+◌, ◌-◌, ◌%◌, ◌<◌, ◌≤◌, min, cond, eqb, List, ◌++◌, length, take, drop, sym, ap, ◌∙◌, ⊎_elim, append-nil, mod-eq_of_lt, arith, length-append, length-drop, length-take}
use native.Mathlib.Nat.{mod-eq-sub-mod, add-mod-mod, add-mod_right}
use lib.Seq.{drop-append-add}
use Rattle.std.proofs.lemmas.List.{drop-append-le, drop-drop, drop_all, drop-take}
use Rattle.std.proofs.lemmas.Slice.{between_is}
use Rattle.std.proofs.lemmas.Bool.{cases_lt, cond_both, eqb-true}
use Rattle.storage.specs.declared.reader.Reader.{Reader}
use Rattle.storage.specs.Registry.{gap, distance}
use Rattle.storage.specs.Slots.{part, recent, waiting_in}

module _ {E : Type 0} (slots : List E) (size : ℕ) (room : size ≤ length slots) where
  -- as many recent events as the ring has slots
  pub length-recent : (p : ℕ) → p ≤ size → length (recent slots size p) ≡ size
  length-recent p h = simp (length-append, length-drop, length-take) (omega arith)

  -- a reader's distance and what waits for it make up the size
  pub length-waiting_in : (last generation : ℕ) (r : Reader) → last < size
      → length (waiting_in slots last size generation r) ≡ size - distance last size generation r
  length-waiting_in last generation r h =
      let long = length-recent (last + 1) (omega arith) in
      length-drop (distance last size generation r) (recent slots size (last + 1)) ∙ ap (λ n. n - distance last size generation r) long

  -- the unread events reach past the end of the ring: they begin at p + d, and the rest lies before p
  runs_wrap : (p d : ℕ) → p + d < size
      → part slots (p + d) (size - (p + d)) ++ part slots 0 p ≡ drop d (recent slots size p)
  runs_wrap p d h =
      let far : d ≤ length (drop p (take size slots)) = simp (length-drop, length-take) (omega arith) in
      let one = drop-append-le d (drop p (take size slots)) (take p slots) far in
      let two = drop-drop d p (take size slots) in
      let run = between_is slots (p + d) size in
      cc

  -- the unread events begin before the place after the last, and end there
  runs_whole : (p d : ℕ) → p ≤ size → size ≤ p + d → d ≤ size
      → part slots (p + d - size) (size - d) ≡ drop d (recent slots size p)
  runs_whole p d h k l =
      let long : length (drop p (take size slots)) ≡ size - p = simp (length-drop, length-take) (omega arith) in
      let past = drop-append-add (drop p (take size slots)) (take p slots) (p + d - size) in
      let start : length (drop p (take size slots)) + (p + d - size) ≡ d = omega arith in
      let end : (p + d - size) + (size - d) ≡ p = omega arith in
      let run = drop-take (p + d - size) (size - d) slots in
      cc

  -- with nothing unread both runs are empty
  runs_none : (q p d : ℕ) → p ≤ size → d ≡ size
      → part slots q (min (size - d) (size - q)) ++ part slots 0 (size - d - (size - q)) ≡ drop d (recent slots size p)
  runs_none q p d h e =
      let long = length-recent p h in
      let none = drop_all d (recent slots size p) (omega arith) in
      let one : min (size - d) (size - q) ≡ 0 = omega arith in
      let two : size - d - (size - q) ≡ 0 = omega arith in
      rw (one, two) (sym none)

  -- from place q, where the unread events begin, to the ring's end, and on from place 0, lies what waits
  pub runs_are_waiting : (last d q : ℕ) → last < size → d ≤ size → q ≡ (last + 1 + d) % size
      → part slots q (min (size - d) (size - q)) ++ part slots 0 (size - d - (size - q)) ≡ drop d (recent slots size (last + 1))
  runs_are_waiting last d q h k e =
      ⊎_elim
      (λ inner.
      let at = mod-eq_of_lt inner in
      let one : min (size - d) (size - q) ≡ size - (last + 1 + d) = omega arith in
      let two : size - d - (size - q) ≡ last + 1 = omega arith in
      let runs = runs_wrap (last + 1) d inner in
      cc)
      (λ over.
      ⊎_elim
      (λ some.
      let less : last + 1 + d - size < size = omega arith in
      let at : q ≡ last + 1 + d - size = e ∙ mod-eq-sub-mod over ∙ mod-eq_of_lt less in
      let one : min (size - d) (size - q) ≡ size - d = omega arith in
      let two : size - d - (size - q) ≡ 0 = omega arith in
      let run = runs_whole (last + 1) d (omega arith) over k in
      rw (two, append-nil, one, at) run)
      (λ full. runs_none q (last + 1) d (omega arith) (omega arith))
      (cases_lt d size))
      (cases_lt (last + 1 + d) size)

-- so many places past the last lies the reader's place
past_gap : (last size place : ℕ) → last < size → (place + 1) % size ≡ (last + 1 + gap last size place) % size
past_gap last size place h =
    let round : last + 1 + (size - last + place) ≡ place + 1 + size = omega arith in
    sym (add-mod-mod (last + 1) (size - last + place) size ∙ ap (λ n. n % size) round ∙ add-mod_right (place + 1) size)

-- what a reader has yet to read begins at the place after the last one that it read
pub unread_place : (last size generation : ℕ) (r : Reader) → last < size
    → (r.place + 1) % size ≡ (last + 1 + distance last size generation r) % size
unread_place last size generation r h =
    let past = past_gap last size r.place h in
    let At : ℕ → Type 0 = λ n. (r.place + 1) % size ≡ (last + 1 + n) % size in
    cond_both (eqb (gap last size r.place) 0) (cond (eqb r.generation generation) size 0) (gap last size r.place) At
    (λ level.
    let near : At 0 = rw (eqb-true (gap last size r.place) 0 level) at past in
    let same : last + 1 + 0 ≡ last + 1 = omega arith in
    let whole : At size = near ∙ ap (λ n. n % size) same ∙ sym (add-mod_right (last + 1) size) in
    cond_both (eqb r.generation generation) size 0 At (λ _. whole) (λ _. near))
    (λ _. past)

-- the two runs of a read from the place after the reader's are what waits for it
pub runs_of_reader : {E : Type 0} (slots : List E) (size last generation q : ℕ) (r : Reader) → size ≤ length slots → last < size
    → distance last size generation r ≤ size → q ≡ (r.place + 1) % size
    → part slots q (min (size - distance last size generation r) (size - q)) ++ part slots 0 (size - distance last size generation r - (size - q))
    ≡ waiting_in slots last size generation r
runs_of_reader slots size last generation q r room h most e =
    runs_are_waiting slots size room last (distance last size generation r) q h most (e ∙ unread_place last size generation r h)
