-- What a source means, and what one call of next does to it. Assumes nothing.
use Rattle.std.specs.Prelude.{◌≡◌, List, [], ◌∷◌, map, Some, None, Option}

module _ {E : Type 0} where
  -- next on the list `was`: the first event, and `left` is the rest; with an empty list none, and it stays empty
  abbrev pub Gives : List E → Option E → List E → Type 0
  Gives was None left = (was ≡ []) × (left ≡ [])
  Gives was (Some x) left = was ≡ x ∷ left

  -- the sources below lose the same event, each from its front, and nothing else
  abbrev pub Draws : List (List E) → Option E → List (List E) → Type 0
  Draws was None left = left ≡ was
  Draws was (Some x) left = was ≡ map (λ xs. x ∷ xs) left
