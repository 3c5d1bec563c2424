-- The distance of one reader, through growth and storing. Its place and the ring's last place are below size.
use Rattle.std.proofs.Common.{◌≡◌, ℕ, ◌+◌, ◌-◌, ◌%◌, ◌<◌, ◌≤◌, ◌≢◌, sym, refl, ap, ◌∙◌, subst, ⊎_elim, mod-eq_of_lt, arith}
use native.Mathlib.Nat.{mod-eq-sub-mod}
use Rattle.std.proofs.lemmas.Bool.{cases_lt, cases_eq, cases_order, eq-eqb, ne_eqb}
use Rattle.std.proofs.lemmas.Bool.Decides.{nat_tests}
use Rattle.storage.specs.declared.reader.Reader.{Reader}
use Rattle.storage.specs.Registry.{fresh, gap, distance, unread, shifted, raised}
use Rattle.storage.proofs.Shifts.{moved, stays-below, shifted-place, shifted-generation}

-- once round the ring and less
turn : (n size : ℕ) → size ≤ n → n < size + size → n % size ≡ n - size
turn n size le lt = let below : n - size < size = omega arith in mod-eq-sub-mod le ∙ mod-eq_of_lt below

pub gap-above : (last size place : ℕ) → last ≤ place → place < size → gap last size place ≡ place - last
gap-above last size place le lt = turn (size - last + place) size (omega arith) (omega arith) ∙ omega arith

pub gap_below : (last size place : ℕ) → place < last → last < size → gap last size place ≡ size - last + place
gap_below last size place lt below = let less : size - last + place < size = omega arith in mod-eq_of_lt less

-- the four cases of a distance

module _ (last size generation : ℕ) (r : Reader) where
  pub distance-above : last < r.place → r.place < size → distance last size generation r ≡ r.place - last
  distance-above lt below = rw (gap-above last size r.place (omega arith) below, ne_eqb (r.place - last) 0 (λ z. omega arith)) refl

  pub distance-below : r.place < last → last < size → distance last size generation r ≡ size - last + r.place
  distance-below lt below = rw (gap_below last size r.place lt below, ne_eqb (size - last + r.place) 0 (λ z. omega arith)) refl

  gap-none : r.place ≡ last → last < size → gap last size r.place ≡ 0
  gap-none same below = gap-above last size r.place (omega arith) (omega arith) ∙ omega arith

  -- everything was read
  pub distance_read : r.place ≡ last → last < size → r.generation ≡ generation → distance last size generation r ≡ size
  distance_read same below g = rw (gap-none same below, eq-eqb r.generation generation g) refl

  -- a full lap waits
  pub distance-full : r.place ≡ last → last < size → r.generation ≢ generation → distance last size generation r ≡ 0
  distance-full same below g = rw (gap-none same below, ne_eqb r.generation generation g) refl

  -- what holds of each case holds of the distance
  pub by_place : (P : ℕ → Type 0) → last < size → r.place < size
      → (r.place ≡ last → r.generation ≡ generation → P size)
      → (r.place ≡ last → r.generation ≢ generation → P 0)
      → (last < r.place → P (r.place - last))
      → (r.place < last → P (size - last + r.place))
      → P (distance last size generation r)
  by_place P l p read full above below =
      ⊎_elim
      (λ (same : r.place ≡ last). ⊎_elim
      (λ (g : r.generation ≡ generation). subst P (sym (distance_read same l g)) (read same g))
      (λ (g : r.generation ≢ generation). subst P (sym (distance-full same l g)) (full same g))
      (cases_eq r.generation generation))
      (⊎_elim
      (λ (lt : r.place < last). subst P (sym (distance-below lt l)) (below lt))
      (λ (lt : last < r.place). subst P (sym (distance-above lt p)) (above lt)))
      (cases_order r.place last)

  -- at most the whole ring can be stored
  pub distance-le : last < size → r.place < size → distance last size generation r ≤ size
  distance-le l p = by_place (λ d. d ≤ size) l p (λ s g. omega arith) (λ s g. omega arith) (λ lt. omega arith) (λ lt. omega arith)

  -- the unread events of a reader that has news
  unread-above : r.generation ≢ generation → last < r.place → r.place < size → unread last size generation r ≡ size - r.place + last
  unread-above g lt p =
      rw (ne_eqb r.generation generation g, gap_below r.place size last lt p, ne_eqb (size - r.place + last) 0 (λ z. omega arith)) refl

  unread-below : r.generation ≢ generation → r.place < last → last < size → unread last size generation r ≡ last - r.place
  unread-below g lt l =
      rw (ne_eqb r.generation generation g, gap-above r.place size last (omega arith) l, ne_eqb (last - r.place) 0 (λ z. omega arith)) refl

  unread-full : r.generation ≢ generation → r.place ≡ last → last < size → unread last size generation r ≡ size
  unread-full g same l =
      let e : gap r.place size last ≡ 0 = gap-above r.place size last (omega arith) l ∙ omega arith in
      rw (ne_eqb r.generation generation g, e) refl

  -- nothing waits for a reader whose generation is the ring's
  pub unread-none : r.generation ≡ generation → unread last size generation r ≡ 0
  unread-none g = rw (eq-eqb r.generation generation g) refl

  -- what waits and what can still be stored make up the ring
  pub unread-distance : last < size → r.place < size → (r.generation ≡ generation → r.place ≡ last)
      → unread last size generation r + distance last size generation r ≡ size
  unread-distance l p agree = ⊎_elim
      (λ (g : r.generation ≡ generation). omega (arith, unread-none g, distance_read (agree g) l g))
      (λ (g : r.generation ≢ generation). ⊎_elim
      (λ (same : r.place ≡ last). omega (arith, unread-full g same l, distance-full same l g))
      (⊎_elim
      (λ (lt : r.place < last). omega (arith, unread-below g lt l, distance-below lt l))
      (λ (lt : last < r.place). omega (arith, unread-above g lt p, distance-above lt p)))
      (cases_order r.place last))
      (cases_eq r.generation generation)

-- a reader that has just read, or registered
pub distance-fresh : (last size generation : ℕ) → last < size → distance last size generation (fresh last generation) ≡ size
distance-fresh last size generation l = distance_read last size generation (fresh last generation) refl l refl

-- growth by g

module _ (last size generation g : ℕ) (r : Reader) where
  -- who lies above last is raised, and so is who has a full lap waiting
  grown-above : last < r.place → shifted last generation g r ≡ raised g r
  grown-above lt = moved last generation g r (grind (arith, nat_tests))

  grown-full : r.place ≡ last → r.generation ≢ generation → shifted last generation g r ≡ raised g r
  grown-full same ne = moved last generation g r (grind (arith, nat_tests))

  grown-below : r.place < last → shifted last generation g r ≡ r
  grown-below lt = stays-below last generation g r (grind (arith, nat_tests))

  grown-read : r.place ≡ last → r.generation ≡ generation → shifted last generation g r ≡ r
  grown-read same e = stays-below last generation g r (grind (arith, nat_tests))

  -- each distance rises by g
  pub distance-grown : last < size → r.place < size → 1 ≤ g
      → distance last (size + g) generation (shifted last generation g r) ≡ distance last size generation r + g
  distance-grown l p more = by_place last size generation r (λ d. distance last (size + g) generation (shifted last generation g r) ≡ d + g) l p
      (λ same e. rw (grown-read same e) (distance_read last (size + g) generation r same (omega arith) e))
      (λ same ne. rw (grown-full same ne) (distance-above last (size + g) generation (raised g r) (omega arith) (omega arith) ∙ omega arith))
      (λ lt. rw (grown-above lt) (distance-above last (size + g) generation (raised g r) (omega arith) (omega arith) ∙ omega arith))
      (λ lt. rw (grown-below lt) (distance-below last (size + g) generation r lt (omega arith) ∙ omega arith))

  -- each place stays below the new size
  pub place_grown : r.place < size → (shifted last generation g r).place < size + g
  place_grown p = let e = shifted-place last generation g r in omega arith

  -- a reader that has read everything is still at last
  pub agree_grown : (r.generation ≡ generation → r.place ≡ last)
      → (shifted last generation g r).generation ≡ generation → (shifted last generation g r).place ≡ last
  agree_grown agree e =
      let same : r.generation ≡ generation = sym (shifted-generation last generation g r) ∙ e in
      ap (λ (x : Reader). x.place) (grown-read (agree same) same) ∙ agree same

-- n events stored

-- the last place has come up to the place of a reader with news, or not quite
reached : (last size generation d : ℕ) (r : Reader) → last ≤ r.place → r.place < size → r.generation ≢ generation → d + last ≡ r.place
    → distance last size generation r ≡ d
reached last size generation d r le p ne is = ⊎_elim
    (λ (same : r.place ≡ last). distance-full last size generation r same (omega arith) ne ∙ omega arith)
    (⊎_elim (λ (lt : r.place < last). absurd (omega arith)) (λ (lt : last < r.place). distance-above last size generation r lt p ∙ omega arith))
    (cases_order r.place last)

-- the last place starts at or above the reader's, and may come round
wrapped : (last size generation n : ℕ) (r : Reader) → last < size → r.place ≤ last → r.generation ≢ generation → 1 ≤ n → n ≤ size - last + r.place
    → distance ((last + n) % size) size generation r ≡ size - last + r.place - n
wrapped last size generation n r l below ne some le = ⊎_elim
    (λ (on : last + n < size). rw (mod-eq_of_lt on) (distance-below (last + n) size generation r (omega arith) on ∙ omega arith))
    (λ (round : size ≤ last + n). rw (turn (last + n) size round (omega arith))
    (reached (last + n - size) size generation (size - last + r.place - n) r (omega arith) (omega arith) ne (omega arith)))
    (cases_lt (last + n) size)

-- each distance falls by n
pub distance-stored : (last size was generation n : ℕ) (r : Reader) → last < size → r.place < size → 1 ≤ n → n ≤ distance last size was r → r.generation ≢ generation
    → distance ((last + n) % size) size generation r ≡ distance last size was r - n
distance-stored last size was generation n r l p some = by_place last size was r
    (λ d. n ≤ d → r.generation ≢ generation → distance ((last + n) % size) size generation r ≡ d - n) l p
    (λ same e le ne. wrapped last size generation n r l (omega arith) ne some (omega arith) ∙ omega arith)
    (λ same e le ne. absurd (omega arith))
    (λ lt le ne. let on : last + n < size = omega arith in rw (mod-eq_of_lt on) (reached (last + n) size generation (r.place - last - n) r (omega arith) p ne (omega arith)))
    (λ lt le ne. wrapped last size generation n r l (omega arith) ne some le)
