-- The laws of readers in told histories. Assumes nothing.
use Rattle.std.proofs.Common.{◌≡◌, List, ◌∷◌, ◌++◌, length, drop, sym, refl, ap, ◌∙◌, subst, append_assoc, append-nil, arith, length-append, drop_at}
use mathlib.Core.Path.{subst⁻¹}
use Rattle.std.proofs.lemmas.Grind.{flat_map-append}
use Rattle.ledger.specs.Ledger.{just_opened, waiting_for, Open}
use Rattle.ledger.specs.Sound.{Sound}
use Rattle.ledger.specs.Histories.{Entry, Told, after, accepted, handed_to, registration, Closes, Never, History, at_end, ReaderOf, accepted_to_read, accepted_since, OpenAtEnd}
use Rattle.ledger.specs.Laws.{StaysSound, EachEventOnce, ReadersHold, EqualTotals, EqualWaiting}
use Rattle.ledger.proofs.Soundness.{opened-sound, keeps_sound}
use Rattle.ledger.proofs.Keeping.{stays_sound, conservation, holds}

-- two ends of one list are equal when they are equally long
pub same_ends : {X : Type 0} (ps xs qs ys : List X) → ps ++ xs ≡ qs ++ ys → length xs ≡ length ys → xs ≡ ys
same_ends ps xs qs ys p e =
    let n : length ps ≡ length qs = omega (arith, e, length-append ps xs, length-append qs ys, ap length p) in
    sym (drop_at ps xs (length qs) n) ∙ ap (drop (length qs)) p ∙ drop_at qs ys (length qs) refl

module _ {E : Type 0} where
  pub reached-sound : (h : History E) → Sound (at_end h)
  reached-sound h = stays_sound (just_opened h.opening) h.entries (opened-sound h.opening)

  pub sound-throughout : StaysSound E
  sound-throughout = record { at_first = opened-sound; kept = keeps_sound; reached = reached-sound }

  pub each_event_once : EachEventOnce E
  each_event_once h es n = conservation (at_end h) es n (reached-sound h)

  -- a history, cut where a reader's life begins, after its latest read, and where its life ends
  abbrev parts : {es : List (Entry E)} (r : ReaderOf es) → es ≡ r.earlier ++ registration r.number ∷ ((r.last.through ++ r.last.since) ++ r.later)
  parts r = r.whole ∙ ap (λ life. r.earlier ++ registration r.number ∷ (life ++ r.later)) r.last.split

  pub readers_hold : ReadersHold E
  readers_hold h r =
      let l = just_opened h.opening in
      let f = holds l r.number r.earlier r.last.through r.last.since r.later (opened-sound h.opening)
      (subst (Told l) (parts r) h.told) (subst (Never (Closes r.number)) r.last.split r.unclosed) r.last.latest r.last.none_later in
      let end : OpenAtEnd r → at_end h ≡ f.0 = λ e. ap (after l) (parts r) ∙ f.1 ∙ ap (after f.0) e in
      record {
        handed_all = ap (handed_to r.number) r.last.split ∙ f.2;
        still_open = λ e. subst⁻¹ (λ k. Open k r.number) (end e) f.3;
        waits = λ e. ap (λ k. waiting_for k r.number) (end e) ∙ f.4;
      }

  pub equal_totals : EqualTotals E
  equal_totals h k r s =
      let p = (readers_hold h r).handed_all in
      let q = (readers_hold k s).handed_all in
      (λ e. sym p ∙ e ∙ q, λ e. p ∙ e ∙ sym q)

  -- what was accepted since an open reader's latest read ends what was accepted in all
  accepted-end : {es : List (Entry E)} (r : ReaderOf es) → OpenAtEnd r → accepted es ≡ (accepted r.earlier ++ accepted_to_read r) ++ accepted_since r
  accepted-end r e = ap accepted (parts r) ∙ simp (e, flat_map-append, append-nil, append_assoc)

  pub equal_waiting : EqualWaiting E
  equal_waiting h r s o u =
      let p = (readers_hold h r).waits o in
      let q = (readers_hold h s).waits u in (
        λ e. ap length (sym p ∙ e ∙ q),
        λ e. p ∙ same_ends (accepted r.earlier ++ accepted_to_read r) (accepted_since r) (accepted s.earlier ++ accepted_to_read s) (accepted_since s) (sym (accepted-end r o) ∙ accepted-end s u) e ∙ sym q,
      )
