-- What is refused, and what an accepted call had to meet. Assumes nothing.
use Rattle.std.proofs.Common.{◌≡◌, ℕ, Bool, true, false, cond, not, ◌&&◌, eqb, ltb, ◌↔◌, length, Some, None, Option, refl, ap, arith}
use Rattle.std.proofs.lemmas.Bool.{eqb-true, eq-eqb, leb-false, lt-leb, ltb-false, le-ltb, not-true, not-false, not_from_true, not_from_false}
use Rattle.ledger.specs.Ledger.{Ledger, Call, Answer, Opened, opening_refusal, opened, denied, granted, fresh, most_readers, open_count, reader_at, is_open, would_write, after_write, other_slots, other_channel, not_open, refusal, taken, decided, outcome}
use Rattle.ledger.specs.Ledger.Call.{register, write, read, close}
use Rattle.ledger.specs.Ledger.Answer.{refused}
use Rattle.ledger.specs.Laws.{Acceptable, Refusals, Figures, Openings}

-- one row of a table: none is given exactly when the row does not hold and the rest gives none
passed : (b : Bool) (n : ℕ) (rest : Option ℕ) → cond b (Some n) rest ≡ None → (b ≡ false) × (rest ≡ None)
passed true n rest h = absurd (grind arith)
passed false n rest h = (refl, h)

passes : (b : Bool) (n : ℕ) (rest : Option ℕ) → b ≡ false → rest ≡ None → cond b (Some n) rest ≡ None
passes b n rest p q = rw (p, q)

-- what is false together, where the first part holds, and the other way
and_rest : (x y : Bool) → (x && y) ≡ false → x ≡ true → y ≡ false
and_rest true y h e = h
and_rest false y h e = absurd (grind arith)

and_not : (x y : Bool) → (x ≡ true → y ≡ false) → (x && y) ≡ false
and_not true y h = h refl
and_not false y h = refl

same_number : (a b : ℕ) → a ≡ b → not (eqb a b) ≡ false
same_number a b e = not_from_true _ (eq-eqb a b e)

pub opening-figures : (next size slots : ℕ) → (opening_refusal next size slots ≡ None) ↔ Figures next size slots
opening-figures next size slots = (to, from)
  where
    to : opening_refusal next size slots ≡ None → Figures next size slots
    to h =
        let a = passed (ltb size 2) 1 _ h in
        let b = passed (ltb 1048576 slots) 2 _ a.1 in
        let c = passed (ltb slots size) 3 _ b.1 in
        let d = passed (ltb 4294967295 next) 12 None c.1 in
        (record { instance = next; size = size; slots = slots; smallest = ltb-false size 2 a.0; most = ltb-false 1048576 slots b.0; room = ltb-false slots size c.0; issued = ltb-false 4294967295 next d.0 }, refl, refl, refl)

    from : Figures next size slots → opening_refusal next size slots ≡ None
    from (o, p, q, r) =
        passes _ 1 _ (le-ltb size 2 (rw (← q) o.smallest))
        (passes _ 2 _ (le-ltb 1048576 slots (rw (← r) o.most))
        (passes _ 3 _ (le-ltb slots size (rw (← q, ← r) o.room))
        (passes _ 12 None (le-ltb 4294967295 next (rw (← p) o.issued)) refl)))

module _ {E : Type 0} where
  denies : (l : Ledger E) (o : Option ℕ) (k : ℕ) → (◌≡◌ {A = Opened (Ledger E)} (elim o [ Some n ↦ denied n | None ↦ granted l ]) (denied k)) ↔ (o ≡ Some k)
  denies l (Some n) k = (λ e. cc, λ e. cc)
  denies l None k = (λ e. absurd (grind arith), λ e. absurd (grind arith))

  pub openings : Openings E
  openings =
      record {
        unrefused = opening-figures;
        denies = λ next size slots k. denies (fresh next size slots) (opening_refusal next size slots) k;
        grants = λ o. rw ((opening-figures o.instance o.size o.slots).1 (o, refl, refl, refl), opened);
      }

  -- a fact of what a call answers and leaves: of a refusal, and of the accepted call
  pub by_outcome : (P : Answer E → Ledger E → Type 0) (l : Ledger E) (c : Call E) → ((k : ℕ) → refusal l c ≡ Some k → P (refused k) l) → (refusal l c ≡ None → P (taken l c).0 (taken l c).1) → P (outcome l c).0 (outcome l c).1
  by_outcome P l c out ok = go (refusal l c) refl
    where
      go : (o : Option ℕ) → refusal l c ≡ o → P (decided o l (taken l c)).0 (decided o l (taken l c)).1
      go (Some k) e = out k e
      go None e = ok e

  -- what a call that is not refused had to meet
  closes-meets : (l : Ledger E) (instance n : ℕ) → refusal l (close instance n) ≡ None → Acceptable l (close instance n)
  closes-meets l instance n h =
      let a = passed (other_channel l instance) 6 _ h in
      let b = passed (not_open l n) 7 None a.1 in
      (eqb-true instance l.instance (not-false _ a.0), not-false (is_open (reader_at l n)) b.0)

  pub meets : (l : Ledger E) (c : Call E) → refusal l c ≡ None → Acceptable l c
  meets l register h = leb-false most_readers (open_count l.readers) (passed _ 4 None h).0
  meets l (write slots new) h =
      let a = passed (other_slots l slots) 5 _ h in
      let b = passed (not (would_write l) && ltb l.size (length new)) 8 _ a.1 in
      let c = passed (would_write l && ltb l.slots (after_write l new).size) 9 None b.1 in (
        eqb-true slots l.slots (not-false _ a.0),
        λ e. ltb-false l.size (length new) (and_rest (not (would_write l)) _ b.0 (not_from_false _ e)),
        λ e. ltb-false l.slots (after_write l new).size (and_rest (would_write l) _ c.0 e),
      )
  meets l (read slots instance n) h =
      let a = passed (other_slots l slots) 5 _ h in
      let b = closes-meets l instance n a.1 in
      (eqb-true slots l.slots (not-false _ a.0), b.0, b.1)
  meets l (close instance n) h = closes-meets l instance n h

  -- and that this suffices
  closes-suffices : (l : Ledger E) (instance n : ℕ) → Acceptable l (close instance n) → refusal l (close instance n) ≡ None
  closes-suffices l instance n (a, b) = passes _ 6 _ (same_number instance l.instance a) (passes _ 7 None (not_from_true _ b) refl)

  pub suffices : (l : Ledger E) (c : Call E) → Acceptable l c → refusal l c ≡ None
  suffices l register h = passes _ 4 None (lt-leb most_readers (open_count l.readers) h) refl
  suffices l (write slots new) (a, b, c) =
      passes _ 5 _ (same_number slots l.slots a)
      (passes _ 8 _ (and_not (not (would_write l)) _ (λ e. le-ltb l.size (length new) (b (not-true _ e))))
      (passes _ 9 None (and_not (would_write l) _ (λ e. le-ltb l.slots (after_write l new).size (c e))) refl))
  suffices l (read slots instance n) (a, b, c) = passes _ 5 _ (same_number slots l.slots a) (closes-suffices l instance n (b, c))
  suffices l (close instance n) h = closes-suffices l instance n h

  -- an accepted call does not answer a refusal
  taken_not : (l : Ledger E) (c : Call E) (k : ℕ) → (taken l c).0 ≡ refused k → ⊥
  taken_not l register k h = grind arith
  taken_not l (write slots new) k h = grind arith
  taken_not l (read slots instance n) k h = grind arith
  taken_not l (close instance n) k h = grind arith

  refused-number : (l : Ledger E) (c : Call E) (k : ℕ) → (outcome l c).0 ≡ refused k → refusal l c ≡ Some k
  refused-number l c k = by_outcome (λ a _. a ≡ refused k → refusal l c ≡ Some k) l c (λ j e h. cc) (λ _ h. absurd (taken_not l c k h))

  refused-unchanged : (l : Ledger E) (c : Call E) (k : ℕ) → (outcome l c).0 ≡ refused k → (outcome l c).1 ≡ l
  refused-unchanged l c k = by_outcome (λ a m. a ≡ refused k → m ≡ l) l c (λ _ _ _. refl) (λ _ h. absurd (taken_not l c k h))

  pub refusals : Refusals E
  refusals =
      record {
        unrefused = λ l c. (meets l c, suffices l c);
        number = λ l c k. (refused-number l c k, λ e. ap (λ o. (decided o l (taken l c)).0) e);
        unchanged = refused-unchanged;
      }
