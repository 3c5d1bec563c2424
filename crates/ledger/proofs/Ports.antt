-- What calls that answer as the ledger does inherit from it. Assumes nothing.
use Rattle.std.proofs.Common.{◌≡◌, ℕ, ◌↔◌, List, [], ◌∷◌, ◌++◌, length, sym, refl, ap, ◌∙◌, subst, subst₂}
use mathlib.Core.Path.{subst⁻¹}
use Rattle.ledger.specs.Ledger.{Ledger, waiting_for, Open}
use Rattle.ledger.specs.Sound.{Sound}
use Rattle.ledger.specs.Histories.{Entry, Told, after, accepted, History, at_end, accepted_since}
use Rattle.ledger.specs.Laws.{Equal, ReaderHolds}
use Rattle.ledger.specs.Port.{Port, Chain, Calls, WouldHand, WouldSize, PortLaws, widest, PortsKeepLaws}
use Rattle.ledger.proofs.Keeping.{read-leaves}
use Rattle.ledger.proofs.Totals.{reached-sound, readers_hold, equal_totals, equal_waiting}
use Rattle.ledger.proofs.Found.{registrations}
use Rattle.ledger.proofs.Runs.{equal_runs, size-answered}

module _ {E St : Type 0} (P : Port E St) where
  chain-told : (es : List (Entry E)) (s t : St) → Chain P s es t → Told (P.ledger_of s) es × (after (P.ledger_of s) es ≡ P.ledger_of t)
  chain-told [] s t p = (tt, ap P.ledger_of p)
  chain-told (e ∷ es) s t (u, d, c) =
      let q = P.as_ledger s e u d in
      let r = chain-told es u t c in
      ((ap (λ x. x.0) q, subst⁻¹ (λ l. Told l es) (ap (λ x. x.1) q) r.0), ap (λ x. after x.1 es) q ∙ r.1)

  -- one call more, as a loop that makes calls goes on
  pub chain_more : (es : List (Entry E)) (s t u : St) (e : Entry E) → Chain P s es t → P.Did t e u → Chain P s (es ++ e ∷ []) u
  chain_more [] s t u e p d = (u, subst⁻¹ (λ x. P.Did x e u) p d, refl)
  chain_more (f ∷ es) s t u e (v, g, c) d = (v, g, chain_more es v t u e c d)

  module _ (es : List (Entry E)) (t : St) (c : Calls P es t) where
    history : History E
    history =
        record { opening = c.opening; entries = es; told = subst (λ l. Told l es) c.opened (chain-told es c.start t c.chain).0 }

    history_end : at_end history ≡ P.ledger_of t
    unfolding history
    history_end = ap (λ l. after l es) (sym c.opened) ∙ (chain-told es c.start t c.chain).1

    calls-sound : Sound (P.ledger_of t)
    calls-sound = subst Sound history_end (reached-sound history)

  would_hand : (t : St) (n : ℕ) (xs : List E) → WouldHand P t n xs → waiting_for (P.ledger_of t) n ≡ xs
  would_hand t n xs (slots, i, u, d) = sym (read-leaves (P.ledger_of t) slots i n xs (ap (λ x. x.0) (P.as_ledger t _ u d))).1

  would_size : (t : St) (size : ℕ) → WouldSize P t size → (P.ledger_of t).size ≡ size
  would_size t size (slots, w, u, d, e) = size-answered (P.ledger_of t) slots w (ap (λ x. x.0) (P.as_ledger t _ u d)) ∙ e

  pub port_laws : PortLaws P
  unfolding history
  port_laws =
      record {
        told = chain-told;
        sound = calls-sound;
        waiting_is = would_hand;
        size_is = would_size;
        readers_hold = λ es t c r. subst (λ k. ReaderHolds k r) (history_end es t c) (readers_hold (history es t c) r);
        open_one = λ es t c n o. registrations.open_one (history es t c) n (subst⁻¹ (λ k. Open k n) (history_end es t c) o);
        equal_totals = λ es fs t u c d r s. equal_totals (history es t c) (history fs u d) r s;
        equal_waiting = λ es t c r s o p xs ys x y.
            let now = λ (k : Ledger E). (waiting_for k r.number ≡ waiting_for k s.number) ↔ (length (accepted_since r) ≡ length (accepted_since s)) in
            rw (← would_hand t r.number xs x, ← would_hand t s.number ys y) (subst now (history_end es t c) (equal_waiting (history es t c) r s o p));
        equal_after_writes = λ es fs t u c d same n o vs ws t' u' x y v w.
            let p = chain-told vs t t' x in
            let q = chain-told ws u u' y in
            subst₂ (λ l k. Equal l k ↔ (accepted vs ≡ accepted ws)) p.1 q.1
            (equal_runs (P.ledger_of t) (P.ledger_of u) vs ws n (calls-sound es t c) (calls-sound fs u d) same o (record { told = p.0; writes = v }) (record { told = q.0; writes = w }));
      }

pub ports_keep_laws : {E St : Type 0} → PortsKeepLaws E St
ports_keep_laws ledger_of = port_laws (widest ledger_of)
