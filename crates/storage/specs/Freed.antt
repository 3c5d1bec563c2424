-- The numbers that were freed. Assumes nothing.
use Rattle.std.specs.Prelude.{ℕ, zero, suc, List, [], ◌∷◌, slice_index}
use Rattle.storage.specs.declared.freed.Freed.{Freed}

-- the first n of them, the latest first
abbrev pub stack_of : List ℕ → ℕ → List ℕ
stack_of free zero = []
stack_of free (suc n) = slice_index free n ∷ stack_of free n

-- the freed numbers, the latest first
abbrev pub stack : Freed → List ℕ
stack f = stack_of f.numbers f.count
