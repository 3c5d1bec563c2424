-- What a write answers, from room and storing to the ledger's outcome.
use Rattle.std.proofs.Common.{◌≡◌, ℕ, ◌≤◌, Bool, true, false, List, [], ◌∷◌, ◌++◌, map, length, None, sym, refl, ap, ◌∙◌, map-id, arith}
use Rattle.std.proofs.lemmas.Bool.{eq-eqb}
use Rattle.ledger.specs.Ledger as ledger
use Rattle.ledger.specs.Ledger.{Ledger, Answer, outcome, refusal, taken, would_write, after_write, is_empty, other_slots, with_events}
use Rattle.ledger.proofs.Readers.{map-joined_shut}
use Rattle.storage.specs.Writes.{size_then, no_room, with_size, with_joined}
use Rattle.storage.proofs.Numbering.{accepted-is}

module _ {E : Type 0} where
  abbrev answered : ℕ → Ledger E → Answer E × Ledger E
  answered count l = (ledger.wrote (record { count = count; size = l.size }), l)

  not_empty : (new : List E) → 1 ≤ length new → is_empty new ≡ false
  not_empty [] h = absurd (omega arith)
  not_empty (x ∷ xs) h = refl

  -- the ledger after a write is the one with room for it, its events joined to every list
  pub after_is : (l : Ledger E) (new : List E) → 1 ≤ length new → with_joined (with_size l (size_then l (length new))) new ≡ after_write l new
  after_is l new some = go (would_write l) refl
    where
      go : (b : Bool) → would_write l ≡ b → with_joined (with_size l (size_then l (length new))) new ≡ after_write l new
      go true e = rw (e, not_empty new some)
      go false e = rw (e, not_empty new some, map-joined_shut new l.readers e)

  -- in its own slots, a write is refused by the rest of the table
  pub refusal_is : (l : Ledger E) (count : ℕ) (new : List E) → count ≡ l.slots → 1 ≤ length new → refusal l (ledger.write count new) ≡ no_room l (length new)
  refusal_is l count new own some =
      let size : (after_write l new).size ≡ size_then l (length new) = sym (ap (λ (x : Ledger E). x.size) (after_is l new some)) in
      rw (eq-eqb count l.slots own, size)

  pub wrote-some : (l after : Ledger E) (count n : ℕ) (new : List E) → count ≡ l.slots → 1 ≤ length new → n ≡ length new → no_room l (length new) ≡ None
      → after ≡ with_joined (with_size l (size_then l (length new))) new → answered n after ≡ outcome l (ledger.write count new)
  wrote-some l after count n new own some is room e =
      ap (λ (k : ℕ). answered k after) is
      ∙ ap (answered (length new)) (e ∙ after_is l new some)
      ∙ accepted-is l (ledger.write count new) (refusal_is l count new own some ∙ room)

  -- drawing nothing leaves the sources below
  pub drawn_none : (new : List E) (b : List (List E)) → new ≡ [] → b ≡ map (λ (xs : List E). new ++ xs) b
  drawn_none new b e = rw e (sym (map-id b))
