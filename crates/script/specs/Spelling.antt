-- How the records of a script are written down, and that this is how they are read. Assumes nothing.
use Rattle.std.specs.Prelude.{◌≡◌, ℕ, ◌+◌, ◌/◌, ◌%◌, ◌^◌, ◌<◌, List, [], ◌∷◌, ◌++◌, length, Ok, codes}
use Rattle.std.specs.List.{flat_map, AllByRecursion}
use Rattle.script.specs.Records.{Record, opening, register, would_write, write, read, close, meaning}

-- four bytes each, the first weighing most
abbrev pub words : List ℕ → List ℕ
words [] = []
words (n ∷ ns) = (n / 16777216) ∷ (n / 65536 % 256) ∷ (n / 256 % 256) ∷ (n % 256) ∷ words ns

abbrev pub spelled : Record → List ℕ
spelled (opening size) = codes "CH" ++ ((size / 256) ∷ (size % 256) ∷ [])
spelled register = codes "RG"
spelled would_write = codes "WW"
spelled (write events) = codes "WR" ++ (length events ∷ words events)
spelled (read reader) = codes "RD" ++ (reader ∷ [])
spelled (close reader) = codes "CL" ++ (reader ∷ [])

-- no opening, and each field fits its bytes
abbrev pub Later : Record → Type 0
Later (opening size) = ⊥
Later register = Unit {0}
Later would_write = Unit {0}
Later (write events) = (length events < 256) × AllByRecursion (λ e. e < 2 ^ 32) events
Later (read reader) = reader < 256
Later (close reader) = reader < 256

-- the records with their places, the first at the given one
abbrev pub placed : ℕ → List Record → List (ℕ × Record)
placed at [] = []
placed at (r ∷ rs) = (at, r) ∷ placed (at + length (spelled r)) rs

-- an opening and then any records that are none, written one behind another, are bytes that mean that list
abbrev pub ReadsBack : Type 0
ReadsBack =
    (size : ℕ) (rs : List Record) → size < 65536 → AllByRecursion Later rs
    → AllByRecursion (λ b. b < 256) (flat_map spelled (opening size ∷ rs))
    × (meaning (flat_map spelled (opening size ∷ rs)) ≡ Ok (placed 0 (opening size ∷ rs)))
