-- A run of accepted writes is one write of the joined events. Assumes nothing.
use Rattle.std.proofs.Common.{◌≡◌, ℕ, Bool, true, false, cond, ◌↔◌, List, [], ◌∷◌, ◌++◌, get_or, sym, refl, ap, ◌∙◌, subst, append-nil, arith, length-append, ext_get_or}
use mathlib.Core.Path.{subst⁻¹}
use Rattle.std.proofs.lemmas.List.{append_cancel_left}
use Rattle.ledger.specs.Ledger.{Ledger, Reader, Written, shut, waiting, is_open, unread, joined_by, any_open, reader_at, Open, would_write, need, with_events, after_write, written, size_for, taken, decided, outcome}
use Rattle.ledger.specs.Ledger.Call.{write}
use Rattle.ledger.specs.Ledger.Answer.{wrote}
use Rattle.ledger.specs.Sound.{Sound}
use Rattle.ledger.specs.Histories.{Entry, after, brought, accepted, Writes, at_end}
use Rattle.ledger.specs.Laws.{Equal, RunOfWrites, RunIsOneWrite, EqualAfterWrites, EmptyWrite}
use Rattle.ledger.proofs.Sizes.{size_laws}
use Rattle.ledger.proofs.Readers.{map-joined_twice, any_open_joined, longest-joined}
use Rattle.ledger.proofs.Writing.{reader_after}
use Rattle.ledger.proofs.Refusals.{by_outcome, suffices}
use Rattle.ledger.proofs.Soundness.{keeps_sound}
use Rattle.ledger.proofs.Totals.{reached-sound}

module _ {E : Type 0} where
  -- two writes that reach an open reader
  reaching_twice : (l : Ledger E) (a b : List E) → Sound l → would_write l ≡ true → with_events (with_events l a) b ≡ with_events l (a ++ b)
  reaching_twice l a b s e = λ i. record { instance = l.instance; size = size i; slots = l.slots; readers = map-joined_twice a b l.readers i; freed = l.freed; used = l.used }
    where
      sum : need (with_events l a) b ≡ need l (a ++ b)
      sum = omega (arith, longest-joined a l.readers e, length-append a b)

      size : (with_events (with_events l a) b).size ≡ (with_events l (a ++ b)).size
      size = ap (size_for (size_for l.size (need l a))) sum ∙ size_laws.in_steps l.size (need l a) (need l (a ++ b)) (omega (arith, s.smallest)) (omega (arith, length-append a b))

  write-twice : (l : Ledger E) (a b : List E) → Sound l → after_write (after_write l a) b ≡ after_write l (a ++ b)
  write-twice l [] b s = refl
  write-twice l (x ∷ a) [] s = ap (after_write l) (sym (append-nil (x ∷ a)))
  write-twice l (x ∷ a) (y ∷ b) s = go (would_write l) refl
    where
      go : (c : Bool) → would_write l ≡ c → after_write (cond c (with_events l (x ∷ a)) l) (y ∷ b) ≡ cond c (with_events l (x ∷ a ++ y ∷ b)) l
      go true e = rw (any_open_joined (x ∷ a) l.readers, e) (reaching_twice l (x ∷ a) (y ∷ b) s e)
      go false e = rw e

  -- an accepted write of a told history
  one-write : (l : Ledger E) (e : Entry E) → Writes e → (outcome l e.call).0 ≡ e.answer → (outcome l e.call).1 ≡ after_write l (brought e.call e.answer)
  one-write l e (slots, new, w, p) =
      subst⁻¹ (λ e. (outcome l e.call).0 ≡ e.answer → (outcome l e.call).1 ≡ after_write l (brought e.call e.answer)) p
      (by_outcome (λ a k. a ≡ wrote w → k ≡ after_write l new) l (write slots new) (λ k _ h. absurd (grind arith)) (λ _ _. refl))

  pub writes-joined : (l : Ledger E) (es : List (Entry E)) → Sound l → RunOfWrites l es → after l es ≡ after_write l (accepted es)
  writes-joined l [] s run = refl
  writes-joined l (e ∷ es) s run =
      writes-joined (outcome l e.call).1 es (keeps_sound l e.call s) (record { told = run.told.1; writes = run.writes.1 })
      ∙ ap (λ k. after_write k (accepted es)) (one-write l e run.writes.0 run.told.0)
      ∙ write-twice l (brought e.call e.answer) (accepted es) s

  pub run_is_one_write : RunIsOneWrite E
  run_is_one_write h es = writes-joined (at_end h) es (reached-sound h)

  joined_cancel : (a b : List E) (r : Reader E) → is_open r ≡ true → unread (joined_by a r) ≡ unread (joined_by b r) → a ≡ b
  joined_cancel a b shut o e = absurd (grind arith)
  joined_cancel a b (waiting xs) o e = append_cancel_left xs a b e

  -- a reader is known by whether it is open and by what it has not read
  same_reader : (q r : Reader E) → is_open q ≡ is_open r → unread q ≡ unread r → q ≡ r
  same_reader shut shut o u = refl
  same_reader shut (waiting ys) o u = absurd (grind arith)
  same_reader (waiting xs) shut o u = absurd (grind arith)
  same_reader (waiting xs) (waiting ys) o u = ap waiting u

  same_readers : (l k : Ledger E) → Sound l → Sound k → Equal l k → l.readers ≡ k.readers
  same_readers l k s t same =
      ext_get_or shut l.readers k.readers (s.numbers ∙ sym t.numbers) (λ n _. same_reader (reader_at l n) (reader_at k n) (same.open_numbers n) (same.unread_lists n))

  -- one write of the same events keeps equal ledgers equal
  write-equal : (l k : Ledger E) (new : List E) → l.readers ≡ k.readers → Equal l k → Equal (after_write l new) (after_write k new)
  write-equal l k [] e same = same
  write-equal l k (x ∷ new) e same =
      subst (λ b. Equal (after_write l (x ∷ new)) (cond b (with_events k (x ∷ new)) k)) (ap any_open e) (go (would_write l))
    where
      go : (b : Bool) → Equal (cond b (with_events l (x ∷ new)) l) (cond b (with_events k (x ∷ new)) k)
      go true = record { size = rw (same.size, e); slots = same.slots; open_numbers = λ n. rw e; unread_lists = λ n. rw e; freed = same.freed }
      go false = same

  pub equal_runs :
      (l k : Ledger E) (es fs : List (Entry E)) (n : ℕ) → Sound l → Sound k → Equal l k → Open l n → RunOfWrites l es → RunOfWrites k fs
      → Equal (after l es) (after k fs) ↔ (accepted es ≡ accepted fs)
  equal_runs l k es fs n s t same o v w =
      let readers = same_readers l k s t same in
      let left = λ (a : List E). ap unread (reader_after l a n) in
      let right = λ (a : List E). ap unread (reader_after k a n ∙ ap (λ rs. joined_by a (get_or rs n shut)) (sym readers)) in
      rw (writes-joined l es s v, writes-joined k fs t w) (
        λ e. joined_cancel (accepted es) (accepted fs) (reader_at l n) o (sym (left (accepted es)) ∙ e.unread_lists n ∙ right (accepted fs)),
        λ e. rw e (write-equal l k (accepted fs) readers same),
      )

  pub equal_after_writes : EqualAfterWrites E
  equal_after_writes h k same n o es fs = equal_runs (at_end h) (at_end k) es fs n (reached-sound h) (reached-sound k) same o

  pub empty_write : EmptyWrite E
  empty_write h =
      ap (λ o. decided o (at_end h) (taken (at_end h) (write (at_end h).slots [])))
      (suffices (at_end h) (write (at_end h).slots []) (refl, λ _. omega arith, λ _. (reached-sound h).room))

  -- the size is what an accepted empty write answers
  pub size-answered : (l : Ledger E) (slots : ℕ) (w : Written) → (outcome l (write slots [])).0 ≡ wrote w → l.size ≡ w.size
  size-answered l slots w = by_outcome (λ a _. a ≡ wrote w → l.size ≡ w.size) l (write slots []) (λ k _ h. absurd (grind arith)) (λ _ e. let q : written l [] ≡ w = cc in ap (λ v. v.size) q)
