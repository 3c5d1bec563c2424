-- What a table lends. Assumes nothing.
use Rattle.std.specs.Prelude.{ℕ, List, Option, slice_set}
use Rattle.std.specs.Borrow.{LendsIf, Fml, RattleType, MutBor, Array}

-- the table ends with the last value behind r at that place, or stays where r is none
abbrev pub LendsPlace : (T : RattleType) → MutBor (List T.Denot) → ℕ → Option (MutBor T.Denot) → Fml
LendsPlace T table place r = LendsIf (Array T 0) T table r (slice_set table.now place) table.now
