-- What the slots hold after growth and after storing, and what waits in them. Assumes nothing.
use Rattle.std.specs.Prelude.{ℕ, ◌+◌, ◌-◌, ◌%◌, List, [], ◌∷◌, ◌++◌, take, drop, slice_set}
use Rattle.std.proofs.Math.Seq.{paste}
use Rattle.storage.specs.declared.reader.Reader.{Reader}
use Rattle.storage.specs.Registry.{distance}

-- the last place once n events are stored
abbrev pub last_after : ℕ → ℕ → ℕ → ℕ
last_after size last n = (last + n) % size

module _ {E : Type 0} where
  -- k elements from place q
  abbrev pub part : List E → ℕ → ℕ → List E
  part xs q k = take k (drop q xs)

  -- growth by g: the slots from p up to the size are copied g places higher, all others stay
  abbrev pub grown : List E → ℕ → ℕ → ℕ → List E
  grown slots p size g = paste slots (p + g) (drop p slots) (size - p)

  -- the events are stored one by one, each at the place after the last, modulo size
  abbrev pub stored : List E → ℕ → ℕ → List E → List E
  stored slots size last [] = slots
  stored slots size last (x ∷ xs) = stored (slice_set slots ((last + 1) % size) x) size ((last + 1) % size) xs

  -- the last `size` stored events, oldest first; p is the place after the last, and may be the size
  abbrev pub recent : List E → ℕ → ℕ → List E
  recent slots size p = drop p (take size slots) ++ take p slots

  -- the events that a reader has yet to read, oldest first
  abbrev pub waiting_in : List E → ℕ → ℕ → ℕ → Reader → List E
  waiting_in slots last size generation r = drop (distance last size generation r) (recent slots size (last + 1))
