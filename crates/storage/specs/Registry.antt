-- Readers, the table of them, and their distances. Assumes nothing.
use Rattle.std.specs.Prelude.{◌≡◌, ℕ, ◌+◌, ◌-◌, ◌%◌, ◌<◌, ◌≤◌, Bool, cond, not, ◌&&◌, ◌||◌, List, Option, Some, None, is_some, IsSome, IsNone, ◌==◌, nat_eq, nat_lt, slice_index_or}
use Rattle.std.specs.List.{count_by, AllByRecursion, IsDistinct}
use Rattle.storage.specs.declared.reader.Reader.{Reader}

-- how many readers may be open at a time
abbrev pub most : ℕ
most = 64

-- what the table has of number k: None where nobody has it open
abbrev pub entry : List (Option Reader) → ℕ → Option Reader
entry rs k = slice_index_or rs k None

abbrev pub Live : List (Option Reader) → ℕ → Type 0
Live rs k = IsSome (entry rs k)

abbrev pub Shut : List (Option Reader) → ℕ → Type 0
Shut rs k = IsNone (entry rs k)

-- every open reader has P
abbrev pub Each : (Reader → Type 0) → List (Option Reader) → Type 0
Each P rs = (k : ℕ) (r : Reader) → entry rs k ≡ Some r → P r

-- a reader that has read everything up to the place
abbrev pub fresh : ℕ → ℕ → Reader
fresh place generation = record { place = place; generation = generation }

-- how many are open
abbrev pub lives : List (Option Reader) → ℕ
lives rs = count_by is_some rs

-- every open number is below `used`
abbrev pub Numbered : List (Option Reader) → ℕ → Type 0
Numbered rs used = (k : ℕ) → Live rs k → k < used

-- what is on the stack was used and is not open
abbrev pub Stack : List (Option Reader) → List ℕ → ℕ → Type 0
Stack rs freed used = AllByRecursion (λ n. (n < used) × Shut rs n) freed

-- and stands there once
abbrev pub Apart : List ℕ → Type 0
Apart freed = IsDistinct nat_eq freed

-- the place minus last, modulo size
abbrev pub gap : ℕ → ℕ → ℕ → ℕ
gap last size place = (size - last + place) % size

-- how many events can be stored before the reader's first unread one is overwritten: the gap, where 0 means the
-- whole size if the reader has read everything, that is if its generation is the ring's
abbrev pub distance : ℕ → ℕ → ℕ → Reader → ℕ
distance last size generation r =
    cond (gap last size r.place == 0) (cond (r.generation == generation) size 0) (gap last size r.place)

-- a reader that growth moves: its place is above last, or equals last while events wait
abbrev pub needs_shift : ℕ → ℕ → Reader → Bool
needs_shift last generation r = nat_lt last r.place || (r.place == last && not (r.generation == generation))

abbrev pub raised : ℕ → Reader → Reader
raised by r = record { place = r.place + by; generation = r.generation }

abbrev pub shifted : ℕ → ℕ → ℕ → Reader → Reader
shifted last generation by r = cond (needs_shift last generation r) (raised by r) r

-- how many events the reader has not read: none where its generation is the ring's, else last minus the place,
-- modulo size, where 0 means the whole size
abbrev pub unread : ℕ → ℕ → ℕ → Reader → ℕ
unread last size generation r =
    cond (r.generation == generation) 0 (cond (gap r.place size last == 0) size (gap r.place size last))

-- of the first n, i is the open one of least distance `far`, the lowest among equals; or none is open
abbrev pub Nearest : (Reader → ℕ) → List (Option Reader) → ℕ → Option ℕ → Type 0
Nearest far rs n None = (k : ℕ) → k < n → Shut rs k
Nearest far rs n (Some i) =
    (i < n)
    × (r : Reader) × (entry rs i ≡ Some r)
    × ((k : ℕ) (s : Reader) → k < n → entry rs k ≡ Some s → far r ≤ far s)
    × ((k : ℕ) (s : Reader) → k < i → entry rs k ≡ Some s → far r < far s)
