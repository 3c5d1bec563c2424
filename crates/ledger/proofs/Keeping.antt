-- What a reader was handed and what waits for it, over any stretch of a told history. Assumes nothing.
use Rattle.std.proofs.Common.{◌≡◌, ℕ, ◌<◌, true, ◌≢◌, List, [], ◌∷◌, ◌++◌, length, get_or, set, sym, refl, ap, ◌∙◌, subst, inl, inr, append_assoc, append-nil, arith, get_or-set_other, get_or-set_same}
use mathlib.Core.Path.{subst⁻¹}
use Rattle.std.specs.List.{AllByRecursion}
use Rattle.std.proofs.lemmas.Grind.{flat_map-append}
use Rattle.std.proofs.lemmas.Bool.{cases_eq, eq-eqb, ne_eqb}
use Rattle.ledger.specs.Ledger.{Ledger, Reader, shut, waiting, Call, Answer, taken, outcome, next_number, is_open, unread, reader_at, waiting_for, Open, joined_by}
use Rattle.ledger.specs.Ledger.Call.{register, write, read, close}
use Rattle.ledger.specs.Ledger.Answer.{refused, registered, wrote, handed, closed}
use Rattle.ledger.specs.Sound.{Sound}
use Rattle.ledger.specs.Histories.{Entry, entry, brought, gave, accepted, handed_to, registration, Reads, Closes, Never, Ends, Told, after}
use Rattle.ledger.specs.Laws.{Acceptable}
use Rattle.ledger.proofs.Readers.{is-open_joined, open_within}
use Rattle.ledger.proofs.Writing.{reader_after}
use Rattle.ledger.proofs.Refusals.{by_outcome, meets}
use Rattle.ledger.proofs.Soundness.{open_not_shut, next-is, keeps_sound}

pub all_split : {X : Type 0} (P : X → Type 0) (xs ys : List X) → AllByRecursion P (xs ++ ys) → AllByRecursion P xs × AllByRecursion P ys
all_split P [] ys h = (tt, h)
all_split P (x ∷ xs) ys h = let r = all_split P xs ys h.1 in ((h.0, r.0), r.1)

module _ {E : Type 0} where
  pub told-split : (l : Ledger E) (es fs : List (Entry E)) → Told l (es ++ fs) → Told l es × Told (after l es) fs
  told-split l [] fs t = (tt, t)
  told-split l (e ∷ es) fs t = let r = told-split (outcome l e.call).1 es fs t.1 in ((t.0, r.0), r.1)

  pub after-append : (l : Ledger E) (es fs : List (Entry E)) → after l (es ++ fs) ≡ after (after l es) fs
  after-append l [] fs = refl
  after-append l (e ∷ es) fs = after-append (outcome l e.call).1 es fs

  pub stays_sound : (l : Ledger E) (es : List (Entry E)) → Sound l → Sound (after l es)
  stays_sound l [] s = s
  stays_sound l (e ∷ es) s = stays_sound (outcome l e.call).1 es (keeps_sound l e.call s)

  -- one call carries an open reader on
  record Carried (n : ℕ) (l : Ledger E) (c : Call E) (a : Answer E) (k : Ledger E) : Type 0 where
    still : Open k n
    kept : gave n c a ++ waiting_for k n ≡ waiting_for l n ++ brought c a

  module _ (n : ℕ) (l : Ledger E) (o : Open l n) where
    -- a call that does not concern the reader
    same : (c : Call E) (a : Answer E) (k : Ledger E) → reader_at k n ≡ reader_at l n → gave n c a ≡ [] → brought c a ≡ [] → Carried n l c a k
    same c a k e g b = record { still = rw e o; kept = rw (g, b, e) (sym (append-nil (waiting_for l n))) }

    refused-carried : (c : Call E) (k : ℕ) → Carried n l c (refused k) l
    refused-carried register k = same register (refused k) l refl refl refl
    refused-carried (write s new) k = same (write s new) (refused k) l refl refl refl
    refused-carried (read s i m) k = same (read s i m) (refused k) l refl refl refl
    refused-carried (close i m) k = same (close i m) (refused k) l refl refl refl

    elsewhere : (m : ℕ) (r : Reader E) → m ≢ n → get_or (set l.readers m r) n shut ≡ reader_at l n
    elsewhere m r d = get_or-set_other l.readers m n r shut (λ e. d (sym e))

    unread-joined : (new : List E) (r : Reader E) → is_open r ≡ true → unread (joined_by new r) ≡ unread r ++ new
    unread-joined new shut h = cc
    unread-joined new (waiting xs) h = refl

    taken-carried : (c : Call E) → Sound l → Acceptable l c → (Closes n (entry c (taken l c).0) → ⊥) → Carried n l c (taken l c).0 (taken l c).1
    taken-carried register s h d =
        same register (taken l register).0 (taken l register).1 (elsewhere (next_number l) (waiting []) (open_not_shut l n (next_number l) o (next-is l s h).1)) refl refl
    taken-carried (write slots new) s h d =
        let e = reader_after l new n in
        record { still = rw (e, is-open_joined new (reader_at l n)) o; kept = rw e (unread-joined new (reader_at l n) o) }
    taken-carried (read slots i m) s h d =
        elim (cases_eq m n) [
          | inl e ↦
              let here : get_or (set l.readers m (waiting [])) n shut ≡ waiting [] =
              rw (← e) (get_or-set_same l.readers m (waiting []) shut (open_within l.readers m h.2)) in
              record { still = ap is_open here; kept = rw (eq-eqb m n e, here, e) }
          | inr ne ↦
              same (read slots i m) (taken l (read slots i m)).0 (taken l (read slots i m)).1 (elsewhere m (waiting []) ne) (rw (ne_eqb m n ne)) refl
        ]
    taken-carried (close i m) s h d =
        same (close i m) closed (taken l (close i m)).1 (elsewhere m shut (λ e. d (i, ap (λ k. entry (close i k) closed) e))) refl refl

    carried : (c : Call E) (a : Answer E) → Sound l → (outcome l c).0 ≡ a → (Closes n (entry c a) → ⊥) → Carried n l c a (outcome l c).1
    carried c a s t = subst (λ a. (Closes n (entry c a) → ⊥) → Carried n l c a (outcome l c).1) t (by_outcome (λ a k. (Closes n (entry c a) → ⊥) → Carried n l c a k) l c (λ k _ d. refused-carried c k) (λ h. taken-carried c s (meets l c h)))

  joins : (g h w b c u v : List E) → g ++ u ≡ w ++ b → h ++ v ≡ u ++ c → (g ++ h) ++ v ≡ w ++ (b ++ c)
  joins g h w b c u v p q =
      append_assoc g h v ∙ ap (λ x. g ++ x) q ∙ sym (append_assoc g u c) ∙ ap (λ x. x ++ c) p ∙ append_assoc w b c

  -- over any stretch of calls that does not close it
  pub conservation :
      (l : Ledger E) (es : List (Entry E)) (n : ℕ) → Sound l → Told l es → Open l n → Never (Closes n) es
      → Open (after l es) n × (handed_to n es ++ waiting_for (after l es) n ≡ waiting_for l n ++ accepted es)
  conservation l [] n s t o d = (o, sym (append-nil (waiting_for l n)))
  conservation l (e ∷ es) n s t o d =
      let k = (outcome l e.call).1 in
      let here = carried n l o e.call e.answer s t.0 d.0 in
      let rest = conservation k es n (keeps_sound l e.call s) t.1 here.still d.1 in
      (rest.0, joins (gave n e.call e.answer) (handed_to n es) (waiting_for l n) (brought e.call e.answer) (accepted es) (waiting_for k n) (waiting_for (after k es) n) here.kept rest.1)

  -- where a reader begins, and what a read leaves and hands over
  pub new_reader : (l : Ledger E) (n : ℕ) → Sound l → (outcome l register).0 ≡ registered n → reader_at (outcome l register).1 n ≡ waiting []
  new_reader l n s =
      by_outcome (λ a k. a ≡ registered n → reader_at k n ≡ waiting []) l register (λ k _ e. absurd (grind arith))
      (λ h e.
      let next : next_number l ≡ n = cc in
      let here : next_number l < length l.readers = rw s.numbers (next-is l s (meets l register h)).0 in
      rw (← next) (get_or-set_same l.readers (next_number l) (waiting []) shut here))

  pub read-leaves : (l : Ledger E) (slots i n : ℕ) (xs : List E) → (outcome l (read slots i n)).0 ≡ handed xs → (reader_at (outcome l (read slots i n)).1 n ≡ waiting []) × (xs ≡ waiting_for l n)
  read-leaves l slots i n xs =
      by_outcome (λ a k. a ≡ handed xs → (reader_at k n ≡ waiting []) × (xs ≡ waiting_for l n)) l (read slots i n) (λ k _ e. absurd (grind arith))
      (λ h e. (get_or-set_same l.readers n (waiting []) shut (open_within l.readers n (meets l (read slots i n) h).2), cc))

  -- nothing waits after a stretch that ends by a read
  ends_read : (n : ℕ) (l : Ledger E) (e : Entry E) (es : List (Entry E)) → Told l (e ∷ es) → Ends (Reads n) (e ∷ es) → waiting_for (after l (e ∷ es)) n ≡ []
  ends_read n l e [] t (slots, i, xs, p) =
      subst⁻¹ (λ e. (outcome l e.call).0 ≡ e.answer → waiting_for (outcome l e.call).1 n ≡ []) p (λ t. ap unread (read-leaves l slots i n xs t).0) t.0
  ends_read n l e (f ∷ es) t r = ends_read n (outcome l e.call).1 f es t.1 r

  nothing-waits : (n : ℕ) (l : Ledger E) (es : List (Entry E)) → Told l es → waiting_for l n ≡ [] → Ends (Reads n) es → waiting_for (after l es) n ≡ []
  nothing-waits n l [] t w r = w
  nothing-waits n l (e ∷ es) t w r = ends_read n l e es t r

  -- nothing is handed over without a read
  not_gave : (n : ℕ) (c : Call E) (a : Answer E) → (Reads n (entry c a) → ⊥) → gave n c a ≡ []
  not_gave n register a d = refl
  not_gave n (write s new) a d = refl
  not_gave n (read s i m) (refused k) d = refl
  not_gave n (read s i m) (registered k) d = refl
  not_gave n (read s i m) (wrote w) d = refl
  not_gave n (read s i m) closed d = refl
  not_gave n (read s i m) (handed xs) d = rw (ne_eqb m n (λ e. d (s, i, xs, ap (λ k. entry (read s i k) (handed xs)) e)))
  not_gave n (close i m) a d = refl

  nothing-handed : (n : ℕ) (es : List (Entry E)) → Never (Reads n) es → handed_to n es ≡ []
  nothing-handed n [] d = refl
  nothing-handed n (e ∷ es) d = rw (not_gave n e.call e.answer d.0) (nothing-handed n es d.1)

  -- a reader from its registration on: what it was handed, and, where its life lasts to the end, what waits
  pub holds :
      (l : Ledger E) (n : ℕ) (earlier through since later : List (Entry E)) → Sound l
      → Told l (earlier ++ registration n ∷ ((through ++ since) ++ later)) → Never (Closes n) (through ++ since) → Ends (Reads n) through → Never (Reads n) since
      → (end : Ledger E) × (after l (earlier ++ registration n ∷ ((through ++ since) ++ later)) ≡ after end later)
      × (handed_to n (through ++ since) ≡ accepted through) × Open end n × (waiting_for end n ≡ accepted since)
  holds l n earlier through since later s t unclosed latest none_later =
      let l₁ = after l earlier in
      let s₁ = stays_sound l earlier s in
      let t₁ = (told-split l earlier (registration n ∷ ((through ++ since) ++ later)) t).1 in
      let l₂ = (outcome l₁ register).1 in
      let new = new_reader l₁ n s₁ t₁.0 in
      let t₂ = told-split l₂ through since (told-split l₂ (through ++ since) later t₁.1).0 in
      let s₂ = keeps_sound l₁ register s₁ in
      let apart = all_split (λ e. Closes n e → ⊥) through since unclosed in
      let l₃ = after l₂ through in
      let c₂ = conservation l₂ through n s₂ t₂.0 (ap is_open new) apart.0 in
      let c₃ = conservation l₃ since n (stays_sound l₂ through s₂) t₂.1 c₂.0 apart.1 in
      let w₂ : waiting_for l₂ n ≡ [] = ap unread new in
      let w₃ : waiting_for l₃ n ≡ [] = nothing-waits n l₂ through t₂.0 w₂ latest in
      let h : handed_to n since ≡ [] = nothing-handed n since none_later in (
        after l₃ since,
        after-append l earlier (registration n ∷ ((through ++ since) ++ later)) ∙ after-append l₂ (through ++ since) later ∙ ap (λ k. after k later) (after-append l₂ through since),
        flat_map-append (λ e. gave n e.call e.answer) through since ∙ ap (λ xs. handed_to n through ++ xs) (h ∙ sym w₃) ∙ c₂.1 ∙ ap (λ xs. xs ++ accepted through) w₂,
        c₃.0,
        ap (λ xs. xs ++ waiting_for (after l₃ since) n) (sym h) ∙ c₃.1 ∙ ap (λ xs. xs ++ accepted since) w₃,
      )
