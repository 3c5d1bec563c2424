-- The first element that passes a test, and those that pass behind it; the legs of a ticket's events.
use Rattle.std.proofs.Common.{◌≡◌, ℕ, suc, ◌<◌, ◌≤◌, Bool, List, [], ◌∷◌, ◌++◌, map, length, get_or, refl, ap, arith}
use Rattle.std.specs.List.{filter, position_or_len, after_first}
use Rattle.std.proofs.lemmas.Grind.{common_steps}
use Rattle.source.specs.declared.event.Leg.{Leg}
use Rattle.source.specs.declared.event.TicketEvent.TheVariants as event
use Rattle.source.specs.Tickets.{legs_among}

pub filter-first : {X : Type 0} (p : X → Bool) (xs : List X) (d : X) → position_or_len p xs < length xs → filter p xs ≡ get_or xs (position_or_len p xs) d ∷ filter p (after_first p xs)
filter-first p [] d h = absurd (omega arith)
filter-first p (x ∷ xs) d h = grind (arith, filter-first p xs d)

pub filter-none : {X : Type 0} (p : X → Bool) (xs : List X) → length xs ≤ position_or_len p xs → filter p xs ≡ []
filter-none p [] h = refl
filter-none p (x ∷ xs) h = grind (arith, common_steps, filter-none p xs)

-- each live leg is a leg event, and nothing else is
pub legs_counted : (ticket : ℕ) (legs : List Leg) → length legs ≡ legs_among (map event.Leg legs ++ (event.Done ticket ∷ []))
legs_counted ticket [] = refl
legs_counted ticket (l ∷ ls) = ap suc (legs_counted ticket ls)
