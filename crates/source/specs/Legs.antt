-- Live legs. Assumes nothing.
use Rattle.std.specs.Prelude.{◌≡◌, ℕ, ◌-◌, Bool, List, [], ◌∷◌, length, drop, filter, Some, None, Option, nat_le}
use Rattle.source.specs.declared.event.Leg.{Leg}

-- a leg is live while its expiry isn't before today
abbrev pub live : ℕ → Leg → Bool
live today leg = nat_le today leg.expiry

-- the live legs, in supplied order
abbrev pub live_legs : ℕ → List Leg → List Leg
live_legs today legs = filter (live today) legs

-- the first live leg, and `left` is the legs behind it; where none is live all are left
abbrev pub FirstLive : ℕ → List Leg → Option Leg → List Leg → Type 0
FirstLive today legs None left = (live_legs today legs ≡ []) × (left ≡ legs)
FirstLive today legs (Some leg) left =
    (live_legs today legs ≡ leg ∷ live_legs today left) × (left ≡ drop (length legs - length left) legs)
