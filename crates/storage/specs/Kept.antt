-- What a ring keeps of its open readers. Assumes nothing.
use Rattle.std.specs.Prelude.{◌≡◌, ℕ, ◌+◌, ◌-◌, ◌%◌, ◌^◌, ◌<◌, ◌≤◌, List, Option}
use Rattle.storage.specs.declared.reader.Reader.{Reader}
use Rattle.storage.specs.Registry.{distance, Each}

-- how many generations lie between, round 2 to the 64th
abbrev pub lag : ℕ → ℕ → ℕ
lag generation g = (generation + 2 ^ 64 - g) % 2 ^ 64

-- so many events can be stored before one is overwritten that somebody has not read
abbrev pub Ahead : List (Option Reader) → ℕ → ℕ → ℕ → ℕ → Type 0
Ahead rs last size generation available = Each (λ r. available ≤ distance last size generation r) rs

-- every place is below size
abbrev pub Places : List (Option Reader) → ℕ → Type 0
Places rs size = Each (λ r. r.place < size) rs

abbrev pub Bounded : List (Option Reader) → Type 0
Bounded rs = Each (λ r. r.generation < 2 ^ 64) rs

-- at most one generation for each event that waits, so that a generation never comes round
abbrev pub Lags : List (Option Reader) → ℕ → ℕ → ℕ → Type 0
Lags rs last size generation = Each (λ r. lag generation r.generation ≤ size - distance last size generation r) rs

-- a reader of the ring's generation has read everything
abbrev pub Level : List (Option Reader) → ℕ → ℕ → Type 0
Level rs last generation = Each (λ r. r.generation ≡ generation → r.place ≡ last) rs
