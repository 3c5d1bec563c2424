-- A fresh ledger is sound, and every call keeps a ledger sound. Assumes nothing.
use Rattle.std.proofs.Common.{◌≡◌, ℕ, ◌+◌, ◌<◌, ◌≤◌, true, false, cond, not, ◌≢◌, List, [], ◌∷◌, map, length, get_or, set, refl, ap, ◌∙◌, inl, inr, arith, length-set, get_or-set_other, get_or-set_same}
use Rattle.std.specs.List.{AllByRecursion}
use Rattle.std.proofs.lemmas.List.{length-map, length-replicate}
use Rattle.std.proofs.lemmas.List.Elements as elements
use Rattle.std.proofs.lemmas.List.Elements.{All-from_recursion, recursion_from_All}
use Rattle.std.proofs.lemmas.Bool.{cases_lt, and_parts, cond-true, cond_both}
use Rattle.ledger.specs.Ledger.{Ledger, Reader, shut, waiting, Call, Opening, just_opened, most_readers, is_open, unread, joined_by, open_count, reader_at, Open, would_write, number_taken, freed_left, used_then, with_readers, next_number, after_register, need, with_events, is_empty, changes, after_write, after_read, after_close, size_for, taken, outcome}
use Rattle.ledger.specs.Ledger.Call.{register, write, read, close}
use Rattle.ledger.specs.Laws.{Acceptable}
use Rattle.ledger.specs.Sound.{Sound, Distinct}
use Rattle.ledger.proofs.Sizes.{size_laws}
use Rattle.ledger.proofs.Readers.{get_or-map_at, get_or-replicate_any, open_count-joined, longest-joined, open_within, open_count-set, longest-set, bit}
use Rattle.ledger.proofs.Refusals.{by_outcome, meets}

-- the library's lemma, which is on `All`
All-weaker : {X : Type 0} (P Q : X → Type 0) → ((x : X) → P x → Q x) → (xs : List X) → AllByRecursion P xs → AllByRecursion Q xs
All-weaker P Q f xs h = recursion_from_All Q xs (elements.All-weaker P Q f xs (All-from_recursion P xs h))

module _ {E : Type 0} where
  -- an open number is no shut one
  pub open_not_shut : (l : Ledger E) (n m : ℕ) → Open l n → reader_at l m ≡ shut → m ≢ n
  open_not_shut l n m o s e =
      let f : is_open (reader_at l m) ≡ false = ap is_open s in
      let t : is_open (reader_at l m) ≡ true = rw e o in
      grind arith

  still_shut : (rs : List (Reader E)) (n m : ℕ) (r : Reader E) → m ≢ n → get_or rs m shut ≡ shut → get_or (set rs n r) m shut ≡ shut
  still_shut rs n m r d h = rw get_or-set_other h

  pub opened-sound : (o : Opening) → Sound {E = E} (just_opened o)
  opened-sound o =
      record {
        smallest = o.smallest;
        room = o.room;
        numbers = length-replicate {A = Reader E} most_readers shut;
        within = omega arith;
        stack = tt;
        distinct = tt;
        counted = refl;
        unused = λ n _. get_or-replicate_any most_readers n shut;
        fits = omega arith;
      }

  -- reader n changed to one with nothing unread, and the numbers with it
  placed :
      (l : Ledger E) (n : ℕ) (r : Reader E) (freed : List ℕ) (used : ℕ) → Sound l → unread r ≡ [] → n < most_readers → used ≤ most_readers
      → AllByRecursion (λ m. (m < used) × (get_or (set l.readers n r) m shut ≡ shut)) freed → Distinct freed
      → open_count l.readers + bit r + length freed ≡ used + bit (reader_at l n)
      → ((m : ℕ) → used ≤ m → get_or (set l.readers n r) m shut ≡ shut)
      → Sound (with_readers l (set l.readers n r) freed used)
  placed l n r freed used s empty low few stack distinct count unused =
      let here : n < length l.readers = rw s.numbers low in
      record {
        smallest = s.smallest;
        room = s.room;
        numbers = length-set l.readers n r ∙ s.numbers;
        within = few;
        stack = stack;
        distinct = distinct;
        counted = omega (arith, open_count-set l.readers n r here);
        unused = unused;
        fits = omega (arith, longest-set l.readers n r, ap length empty, s.fits);
      }

  -- the freed numbers other than n stay shut
  others : (l : Ledger E) (n used : ℕ) (r : Reader E) (ns : List ℕ) → AllByRecursion (λ m. (m < used) × (reader_at l m ≡ shut)) ns → AllByRecursion (λ m. m ≢ n) ns → AllByRecursion (λ m. (m < used) × (get_or (set l.readers n r) m shut ≡ shut)) ns
  others l n used r [] a d = tt
  others l n used r (m ∷ ns) a d = ((a.0.0, still_shut l.readers n m r d.0 a.0.1), others l n used r ns a.1 d.1)

  -- the number that a registration takes is shut, and one of all numbers
  pub next-is : (l : Ledger E) → Sound l → open_count l.readers < most_readers → (next_number l < most_readers) × (reader_at l (next_number l) ≡ shut)
  next-is l s h = go l.freed s.stack s.counted
    where
      go : (ns : List ℕ) → AllByRecursion (λ m. (m < l.used) × (reader_at l m ≡ shut)) ns → open_count l.readers + length ns ≡ l.used → (number_taken ns l.used < most_readers) × (reader_at l (number_taken ns l.used) ≡ shut)
      go [] a c = (omega arith, s.unused l.used (omega arith))
      go (n ∷ ns) a c = (omega (arith, a.0.0, s.within), a.0.1)

  register-sound : (l : Ledger E) → Sound l → open_count l.readers < most_readers → Sound (after_register l)
  register-sound l s h = go l.freed s.stack s.distinct s.counted
    where
      go : (ns : List ℕ) → AllByRecursion (λ m. (m < l.used) × (reader_at l m ≡ shut)) ns → Distinct ns → open_count l.readers + length ns ≡ l.used
          → Sound (with_readers l (set l.readers (number_taken ns l.used) (waiting [])) (freed_left ns) (used_then ns l.used))
      go [] a d c =
          let z = ap bit (s.unused l.used (omega arith)) in
          placed l l.used (waiting []) [] (l.used + 1) s refl (omega arith) (omega arith) tt tt (omega (arith, z))
          (λ m g. still_shut l.readers l.used m (waiting []) (omega arith) (s.unused m (omega arith)))
      go (n ∷ ns) a d c =
          let z = ap bit a.0.1 in
          let under = a.0.0 in
          placed l n (waiting []) ns l.used s refl (omega (arith, s.within)) s.within (others l n l.used (waiting []) ns a.1 d.0) d.1 (omega (arith, z))
          (λ m g. still_shut l.readers n m (waiting []) (omega arith) (s.unused m g))

  -- an open reader changed to r
  module _ (l : Ledger E) (n : ℕ) (s : Sound l) (o : Open l n) where
    open_used : n < l.used
    open_used = elim (cases_lt n l.used) [ inl h ↦ h | inr h ↦ absurd (open_not_shut l n n o (s.unused n h) refl) ]

    open_apart : AllByRecursion (λ m. m ≢ n) l.freed
    open_apart = All-weaker (λ m. (m < l.used) × (reader_at l m ≡ shut)) (λ m. m ≢ n) (λ m h. open_not_shut l n m o h.1) l.freed s.stack

    open_one : bit (reader_at l n) ≡ 1
    open_one = ap (λ b. cond b 1 0) o

    past : (r : Reader E) (m : ℕ) → l.used ≤ m → get_or (set l.readers n r) m shut ≡ shut
    past r m h = still_shut l.readers n m r (let u = open_used in omega arith) (s.unused m h)

    read-sound : Sound (after_read l n)
    read-sound =
        placed l n (waiting []) l.freed l.used s refl (omega (arith, open_used, s.within)) s.within (others l n l.used (waiting []) l.freed s.stack open_apart) s.distinct (omega (arith, s.counted, open_one)) (past (waiting []))

    close-sound : Sound (after_close l n)
    close-sound =
        let here : n < length l.readers = open_within l.readers n o in
        placed l n shut (n ∷ l.freed) l.used s refl (omega (arith, open_used, s.within)) s.within ((open_used, get_or-set_same l.readers n shut shut here), others l n l.used shut l.freed s.stack open_apart) (open_apart, s.distinct) (omega (arith, s.counted, open_one)) (past shut)

  -- a write that reaches an open reader
  reaching_sound : (l : Ledger E) (new : List E) → Sound l → would_write l ≡ true → size_for l.size (need l new) ≤ l.slots → Sound (with_events l new)
  reaching_sound l new s e room =
      let one : 1 ≤ l.size = omega (arith, s.smallest) in
      record {
        smallest = omega (arith, s.smallest, size_laws.never_smaller l.size (need l new) one);
        room = room;
        numbers = length-map l.readers (joined_by new) ∙ s.numbers;
        within = s.within;
        stack = All-weaker (λ m. (m < l.used) × (reader_at l m ≡ shut)) (λ m. (m < l.used) × (reader_at (with_events l new) m ≡ shut)) (λ m g. (g.0, same m g.1)) l.freed s.stack;
        distinct = s.distinct;
        counted = rw (open_count-joined new l.readers) s.counted;
        unused = λ m g. same m (s.unused m g);
        fits = rw (longest-joined new l.readers e) (size_laws.enough l.size (need l new) one);
      }
    where
      same : (m : ℕ) → reader_at l m ≡ shut → get_or (map (joined_by new) l.readers) m shut ≡ shut
      same m e = get_or-map_at (joined_by new) shut l.readers m ∙ ap (joined_by new) e

  write-sound : (l : Ledger E) (new : List E) → Sound l → (would_write l ≡ true → (after_write l new).size ≤ l.slots) → Sound (after_write l new)
  write-sound l new s h =
      cond_both (changes l new) (with_events l new) l Sound
      (λ e.
      let reaches = (and_parts (not (is_empty new)) (would_write l) e).1 in
      reaching_sound l new s reaches (rw (cond-true (changes l new) (with_events l new) l e) at (h reaches)))
      (λ _. s)

  pub keeps_sound : (l : Ledger E) (c : Call E) → Sound l → Sound (outcome l c).1
  keeps_sound l c s = by_outcome (λ _ k. Sound k) l c (λ _ _. s) (λ h. go c (meets l c h))
    where
      go : (c : Call E) → Acceptable l c → Sound (taken l c).1
      go register h = register-sound l s h
      go (write slots new) h = write-sound l new s h.2
      go (read slots instance n) h = read-sound l n s h.2
      go (close instance n) h = close-sound l n s h.1
