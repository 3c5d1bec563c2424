-- Numbers in a row. Assumes nothing.
use Rattle.std.specs.Prelude.{ℕ, List}
use Rattle.std.specs.List.{range_with_len}

-- `count` numbers from `start` upward
abbrev pub up_from : ℕ → ℕ → List ℕ
up_from start count = range_with_len start count
