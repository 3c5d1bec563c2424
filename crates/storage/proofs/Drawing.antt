-- Storing what a source gives, event by event.
use Rattle.std.proofs.Common.{◌≡◌, ◌+◌, ◌%◌, List, [], ◌∷◌, ◌++◌, map, length, set, sym, ap, ◌∙◌, map-id}
use mathlib.Core.List.{map-map}
use Rattle.storage.specs.Slots.{stored, last_after}
use Rattle.storage.specs.declared.circular.CircularIndex.{CircularIndex}
use Rattle.storage.proofs.Storing.{last_after-more, last_after-none}

-- a source that means `left`, over sources with `below`, leads to the same end as the first did from the first slots
pub record Leads {E : Type 0} (slots : List E) (at : CircularIndex) (left : List E) (below : List (List E)) (first : List E) (last : CircularIndex) (all : List E) (beneath : List (List E)) : Type 0 where
  pub size : at.size ≡ last.size
  pub after : stored slots last.size at.index left ≡ stored first last.size last.index all
  pub value : last_after last.size at.index (length left) ≡ last_after last.size last.index (length all)
  pub drawn : (zs : List (List E)) → below ≡ map (λ xs. left ++ xs) zs → beneath ≡ map (λ xs. all ++ xs) zs

module _ {E : Type 0} (first : List E) (last : CircularIndex) (all : List E) (beneath : List (List E)) where
  -- one event drawn and stored at the place after the last
  pub leads-more : (slots new : List E) (at next : CircularIndex) (x : E) (was left : List E) (above below : List (List E))
      → Leads slots at was above first last all beneath → was ≡ x ∷ left → above ≡ map (λ xs. x ∷ xs) below
      → next.index ≡ (at.index + 1) % at.size → next.size ≡ at.size → new ≡ set slots next.index x
      → Leads new next left below first last all beneath
  leads-more slots new at next x was left above below leads gives draws place same put =
      let more = last_after-more last.size at.index (length left) in
      let index : next.index ≡ (at.index + 1) % last.size = rw (← leads.size) place in
      record {
        size = same ∙ leads.size;
        after = cc leads.after;
        value = cc leads.value;
        drawn = λ zs e. leads.drawn zs (draws ∙ ap (map (λ xs. x ∷ xs)) e ∙ map-map (λ xs. x ∷ xs) (λ xs. left ++ xs) zs ∙ ap (λ ys. map (λ xs. ys ++ xs) zs) (sym gives));
      }

  -- the source is empty: the slots, the sources below and the last place are as stated of the first
  pub leads-all : (slots : List E) (at : CircularIndex) (was : List E) (above below : List (List E))
      → Leads slots at was above first last all beneath → was ≡ [] → below ≡ above
      → (slots ≡ stored first last.size last.index all) × (beneath ≡ map (λ xs. all ++ xs) below) × (at.index ≡ last_after last.size last.index (length all))
  leads-all slots at was above below leads none kept =
      let stays : last_after last.size at.index 0 ≡ at.index = rw (← leads.size) (last_after-none at.size at.index at.within) in
      let same : above ≡ map (λ xs. was ++ xs) below = rw (none, map-id below) (sym kept) in
      (rw none at leads.after, leads.drawn below same, sym stays ∙ rw none at leads.value)
