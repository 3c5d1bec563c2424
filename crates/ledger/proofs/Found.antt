-- Each accepted registration is one reader's. Assumes nothing.
use Rattle.std.proofs.Common.{◌≡◌, ℕ, true, ◌⊎◌, List, [], ◌∷◌, ◌++◌, length, get_or, drop, set, sym, refl, ap, ◌∙◌, subst, inl, inr, append-nil, arith, get_or-set_other, get_or-set_same, drop_at}
use Rattle.std.proofs.lemmas.Bool.{cases_eq}
use Rattle.ledger.specs.Ledger.{Ledger, Reader, shut, waiting, Call, Answer, just_opened, taken, outcome, most_readers, next_number, is_open, reader_at, Open}
use Rattle.ledger.specs.Ledger.Call.{register, write, read, close}
use Rattle.ledger.specs.Ledger.Answer.{refused, registered, wrote, handed, closed}
use Rattle.ledger.specs.Histories.{Entry, entry, registration, Reads, Closes, Never, Begins, Ends, Told, after, History, at_end, ReaderOf, OpenAtEnd}
use Rattle.ledger.specs.Laws.{Acceptable, Registrations}
use Rattle.ledger.proofs.Readers.{get_or-replicate_any, is-open_joined, open_within}
use Rattle.ledger.proofs.Writing.{reader_after}
use Rattle.ledger.proofs.Refusals.{by_outcome, meets}
use Rattle.ledger.proofs.Keeping.{all_split}

module _ {E : Type 0} (P : Entry E → Type 0) where
  -- the entries before the first P, and those through the last P
  module _ (dec : (e : Entry E) → Dec (P e)) where
    until : (es : List (Entry E)) → (front : List (Entry E)) × (back : List (Entry E)) × (es ≡ front ++ back) × Never P front × Begins P back
    until [] = ([], [], refl, tt, tt)
    until (e ∷ es) =
        let r = until es in
        elim (dec e) [ yes p ↦ ([], e ∷ es, refl, tt, p) | no d ↦ (e ∷ r.0, r.1, ap (λ xs. e ∷ xs) r.2, (d, r.3), r.4) ]

    through : (es : List (Entry E)) → (front : List (Entry E)) × (back : List (Entry E)) × (es ≡ front ++ back) × Ends P front × Never P back
    through [] = ([], [], refl, tt, tt)
    through (e ∷ es) = more e es (through es)
      where
        more : (e : Entry E) (es : List (Entry E)) → (front : List (Entry E)) × (back : List (Entry E)) × (es ≡ front ++ back) × Ends P front × Never P back → (front : List (Entry E)) × (back : List (Entry E)) × (e ∷ es ≡ front ++ back) × Ends P front × Never P back
        more e es ([], back, p, l, n) = elim (dec e) [ yes q ↦ (e ∷ [], back, ap (λ xs. e ∷ xs) p, q, n) | no d ↦ ([], e ∷ es, refl, tt, (d, subst (Never P) (sym p) n)) ]
        more e es (f ∷ front, back, p, l, n) = (e ∷ f ∷ front, back, ap (λ xs. e ∷ xs) p, l, n)

  until_one : (f b g c : List (Entry E)) → f ++ b ≡ g ++ c → Never P f → Begins P b → Never P g → Begins P c → f ≡ g
  until_one [] b [] c p n x m y = refl
  until_one [] b (e ∷ g) c p n x m y = absurd (m.0 (subst (Begins P) p x))
  until_one (e ∷ f) b [] c p n x m y = absurd (n.0 (subst (Begins P) (sym p) y))
  until_one (e ∷ f) b (d ∷ g) c p n x m y =
      let rest : f ++ b ≡ g ++ c = cc in
      let tail = until_one f b g c rest n.1 x m.1 y in
      let head : e ≡ d = cc in
      cc

  ends-not_never : (e : Entry E) (es : List (Entry E)) → Ends P (e ∷ es) → Never P (e ∷ es) → ⊥
  ends-not_never e [] x n = n.0 x
  ends-not_never e (f ∷ es) x n = ends-not_never f es x n.1

  ends-tail : (e : Entry E) (es : List (Entry E)) → Ends P (e ∷ es) → Ends P es
  ends-tail e [] x = tt
  ends-tail e (f ∷ es) x = x

  through-one : (f b g c : List (Entry E)) → f ++ b ≡ g ++ c → Ends P f → Never P b → Ends P g → Never P c → f ≡ g
  through-one [] b [] c p x n y m = refl
  through-one [] b (e ∷ g) c p x n y m = absurd (ends-not_never e g y (all_split (λ e. P e → ⊥) (e ∷ g) c (subst (Never P) p n)).0)
  through-one (e ∷ f) b [] c p x n y m = absurd (ends-not_never e f x (all_split (λ e. P e → ⊥) (e ∷ f) b (subst (Never P) (sym p) m)).0)
  through-one (e ∷ f) b (d ∷ g) c p x n y m =
      let rest : f ++ b ≡ g ++ c = cc in
      let tail = through-one f b g c rest (ends-tail e f x) n (ends-tail d g y) m in
      let head : e ≡ d = cc in
      cc

module _ {E : Type 0} where
  both : {e f : Entry E} → e ≡ f → (e.call ≡ f.call) × (e.answer ≡ f.answer)
  both p = (ap (λ e. e.call) p, ap (λ e. e.answer) p)

  -- an accepted close of n, and an accepted read by n, can be told
  closes? : (n : ℕ) (c : Call E) (a : Answer E) → Dec (Closes n (entry c a))
  closes? n register a = no (λ h. let p = both h.1 in grind arith)
  closes? n (write s new) a = no (λ h. let p = both h.1 in grind arith)
  closes? n (read s i m) a = no (λ h. let p = both h.1 in grind arith)
  closes? n (close i m) closed = elim (cases_eq m n) [ inl e ↦ yes (i, ap (λ k. entry (close i k) closed) e) | inr d ↦ no (λ h. d (let p = both h.1 in cc)) ]
  closes? n (close i m) (refused k) = no (λ h. let p = both h.1 in grind arith)
  closes? n (close i m) (registered k) = no (λ h. let p = both h.1 in grind arith)
  closes? n (close i m) (wrote w) = no (λ h. let p = both h.1 in grind arith)
  closes? n (close i m) (handed xs) = no (λ h. let p = both h.1 in grind arith)

  reads? : (n : ℕ) (c : Call E) (a : Answer E) → Dec (Reads n (entry c a))
  reads? n register a = no (λ h. let p = both h.3 in grind arith)
  reads? n (write s new) a = no (λ h. let p = both h.3 in grind arith)
  reads? n (close i m) a = no (λ h. let p = both h.3 in grind arith)
  reads? n (read s i m) (handed xs) = elim (cases_eq m n) [ inl e ↦ yes (s, i, xs, ap (λ k. entry (read s i k) (handed xs)) e) | inr d ↦ no (λ h. d (let p = both h.3 in cc)) ]
  reads? n (read s i m) (refused k) = no (λ h. let p = both h.3 in grind arith)
  reads? n (read s i m) (registered k) = no (λ h. let p = both h.3 in grind arith)
  reads? n (read s i m) (wrote w) = no (λ h. let p = both h.3 in grind arith)
  reads? n (read s i m) closed = no (λ h. let p = both h.3 in grind arith)

  -- a registration, cut at the reader's close, where its life and what follows are known
  cut : (es earlier life later : List (Entry E)) (n : ℕ) → es ≡ earlier ++ registration n ∷ (life ++ later) → Never (Closes n) life → Begins (Closes n) later → ReaderOf es
  cut es earlier life later n p unclosed ended =
      let t = through (Reads n) (λ e. reads? n e.call e.answer) life in
      record {
        number = n;
        earlier = earlier;
        life = life;
        later = later;
        whole = p;
        unclosed = unclosed;
        ended = ended;
        last = record { through = t.0; since = t.1; split = t.2; latest = t.3; none_later = t.4 };
      }

  found : (es earlier rest : List (Entry E)) (n : ℕ) → es ≡ earlier ++ registration n ∷ rest → (r : ReaderOf es) × (r.number ≡ n) × (r.earlier ≡ earlier)
  unfolding cut
  found es earlier rest n p =
      let u = until (Closes n) (λ e. closes? n e.call e.answer) rest in
      (cut es earlier u.0 u.1 n (p ∙ ap (λ xs. earlier ++ registration n ∷ xs) u.2) u.3 u.4, refl, refl)

  one : (es : List (Entry E)) (r s : ReaderOf es) → length r.earlier ≡ length s.earlier → (r.number ≡ s.number) × (r.life ≡ s.life) × (r.last.through ≡ s.last.through)
  one es r s e =
      let tails = drop_at r.earlier (registration r.number ∷ (r.life ++ r.later)) (length s.earlier) e in
      let tails₂ = drop_at s.earlier (registration s.number ∷ (s.life ++ s.later)) (length s.earlier) refl in
      let rest : registration r.number ∷ (r.life ++ r.later) ≡ registration s.number ∷ (s.life ++ s.later) = sym tails ∙ ap (drop (length s.earlier)) (sym r.whole ∙ s.whole) ∙ tails₂ in
      let first : ◌≡◌ {A = Entry E} (registration r.number) (registration s.number) = cc in
      let same : ◌≡◌ {A = Answer E} (registered r.number) (registered s.number) = ap (λ e. e.answer) first in
      let number : r.number ≡ s.number = cc in
      let life = until_one (Closes s.number) r.life r.later s.life s.later (cc) (subst (λ n. Never (Closes n) r.life) number r.unclosed) (subst (λ n. Begins (Closes n) r.later) number r.ended) s.unclosed s.ended in (
        number,
        life,
        through-one (Reads s.number) r.last.through r.last.since s.last.through s.last.since (sym r.last.split ∙ life ∙ s.last.split) (subst (λ n. Ends (Reads n) r.last.through) number r.last.latest) (subst (λ n. Never (Reads n) r.last.since) number r.last.none_later) s.last.latest s.last.none_later,
      )

  -- a number that is open after a call was open before it and is not closed by it, or the call registered it
  abbrev WasOpen : ℕ → Ledger E → Entry E → Type 0
  WasOpen n l e = (Open l n × (Closes n e → ⊥)) ⊎ (e ≡ registration n)

  was_open : (n : ℕ) (l : Ledger E) (c : Call E) → Open (outcome l c).1 n → WasOpen n l (entry c (outcome l c).0)
  was_open n l c = by_outcome (λ a k. Open k n → WasOpen n l (entry c a)) l c (λ k _ o. inl (o, λ h. let p = both h.1 in grind arith)) (λ h. go c (meets l c h))
    where
      stayed : (m : ℕ) (r : Reader E) → (m ≡ n → ⊥) → is_open (get_or (set l.readers m r) n shut) ≡ true → Open l n
      stayed m r d o = rw (get_or-set_other l.readers m n r shut (λ e. d (sym e))) at o

      other : (c : Call E) (a : Answer E) → ((i m : ℕ) → c ≡ close i m → m ≡ n → ⊥) → Closes n (entry c a) → ⊥
      other c a d h = d h.0 n (ap (λ e. e.call) h.1) refl

      go : (c : Call E) → Acceptable l c → Open (taken l c).1 n → WasOpen n l (entry c (taken l c).0)
      go register h o = elim (cases_eq (next_number l) n) [ inl e ↦ inr (ap registration e) | inr d ↦ inl (stayed (next_number l) (waiting []) d o, other register _ (λ i m p. grind arith)) ]
      go (write s new) h o = inl (rw (reader_after l new n, is-open_joined new (reader_at l n)) at o, other (write s new) _ (λ i m p. grind arith))
      go (read s i m) h o =
          elim (cases_eq m n) [
            | inl e ↦ inl (rw e at h.2, other (read s i m) _ (λ i m p. grind arith))
            | inr d ↦ inl (stayed m (waiting []) d o, other (read s i m) _ (λ i m p. grind arith))
          ]
      go (close i m) h o =
          elim (cases_eq m n) [
            | inl e ↦ absurd (let gone = get_or-set_same l.readers m shut shut (open_within l.readers m h.1) in let here = rw (← e) at o in grind arith)
            | inr d ↦ inl (stayed m shut d o, other (close i m) _ (λ j k p q. d (cc)))
          ]

  -- a number that is open after a stretch was open before it, or was registered in it, and was not closed since
  abbrev Since : ℕ → Ledger E → List (Entry E) → Type 0
  Since n l es = (Open l n × Never (Closes n) es) ⊎ ((earlier : List (Entry E)) × (life : List (Entry E)) × (es ≡ earlier ++ registration n ∷ life) × Never (Closes n) life)

  since : (n : ℕ) (l : Ledger E) (es : List (Entry E)) → Told l es → Open (after l es) n → Since n l es
  since n l [] t o = inl (o, tt)
  since n l (e ∷ es) t o = go (since n (outcome l e.call).1 es t.1 o)
    where
      here : Open (outcome l e.call).1 n → WasOpen n l e
      here p = subst (λ a. WasOpen n l (entry e.call a)) t.0 (was_open n l e.call p)

      go : Since n (outcome l e.call).1 es → Since n l (e ∷ es)
      go (inr (earlier, life, p, d)) = inr (e ∷ earlier, life, ap (λ xs. e ∷ xs) p, d)
      go (inl (p, d)) = elim (here p) [ inl q ↦ inl (q.0, (q.1, d)) | inr q ↦ inr ([], es, ap (λ x. x ∷ es) q, d) ]

  open_one : (h : History E) (n : ℕ) → Open (at_end h) n → (r : ReaderOf h.entries) × (r.number ≡ n) × OpenAtEnd r
  unfolding cut
  open_one h n o = go (since n (just_opened h.opening) h.entries h.told o)
    where
      go : Since n (just_opened h.opening) h.entries → (r : ReaderOf h.entries) × (r.number ≡ n) × OpenAtEnd r
      go (inl (p, d)) = absurd (let q = ap is_open (get_or-replicate_any {A = Reader E} most_readers n shut) in grind arith)
      go (inr (earlier, life, p, d)) = (cut h.entries earlier life [] n (p ∙ ap (λ xs. earlier ++ registration n ∷ xs) (sym (append-nil life))) d tt, refl, refl)

  pub registrations : Registrations E
  registrations = record { found = found; one = one; open_one = open_one }
