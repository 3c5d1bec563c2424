-- What holds of every ledger that is reached from an accepted opening. Assumes nothing.
use Rattle.std.specs.Prelude.{◌≡◌, ℕ, ◌+◌, ◌<◌, ◌≤◌, ◌≢◌, List, [], ◌∷◌, length}
use Rattle.std.specs.List.{AllByRecursion}
use Rattle.ledger.specs.Ledger.{Ledger, shut, most_readers, reader_at, open_count, longest}

-- no number stands twice
abbrev pub Distinct : List ℕ → Type 0
Distinct [] = Unit {0}
Distinct (n ∷ ns) = AllByRecursion (λ m. m ≢ n) ns × Distinct ns

pub record Sound {E : Type 0} (l : Ledger E) : Type 0 where
  pub smallest : 2 ≤ l.size
  pub room : l.size ≤ l.slots
  pub numbers : length l.readers ≡ most_readers
  pub within : l.used ≤ most_readers
  -- each freed number was used and is shut, and none is freed twice
  pub stack : AllByRecursion (λ n. (n < l.used) × (reader_at l n ≡ shut)) l.freed
  pub distinct : Distinct l.freed
  -- a used number is open or freed
  pub counted : open_count l.readers + length l.freed ≡ l.used
  pub unused : (n : ℕ) → l.used ≤ n → reader_at l n ≡ shut
  -- no unread list is longer than the size
  pub fits : longest l.readers ≤ l.size
