-- What a write leaves, whether or not it changes anything. Assumes nothing.
use Rattle.std.proofs.Common.{◌≡◌, ℕ, Bool, true, false, cond, List, [], ◌∷◌, map, get_or, sym, refl, ap, ◌∙◌}
use Rattle.ledger.specs.Ledger.{Ledger, shut, joined_by, reader_at, would_write, with_events, after_write}
use Rattle.ledger.proofs.Readers.{get_or-map_at, map-joined_none, map-joined_shut}

module _ {E : Type 0} where
  -- the new events join every unread list in any case
  pub readers-after : (l : Ledger E) (new : List E) → (after_write l new).readers ≡ map (joined_by new) l.readers
  readers-after l [] = sym (map-joined_none l.readers)
  readers-after l (x ∷ new) = go (would_write l) refl
    where
      go : (b : Bool) → would_write l ≡ b → (cond b (with_events l (x ∷ new)) l).readers ≡ map (joined_by (x ∷ new)) l.readers
      go true e = refl
      go false e = sym (map-joined_shut (x ∷ new) l.readers e)

  pub reader_after : (l : Ledger E) (new : List E) (n : ℕ) → reader_at (after_write l new) n ≡ joined_by new (reader_at l n)
  reader_after l new n = ap (λ rs. get_or rs n shut) (readers-after l new) ∙ get_or-map_at (joined_by new) shut l.readers n
