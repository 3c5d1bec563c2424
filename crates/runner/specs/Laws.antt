-- What can be told of the printed text of whole sessions. Assumes nothing.
use Rattle.std.specs.Prelude.{◌≡◌, ℕ, ◌<◌, ◌≤◌, List, ◌++◌, map, None, Ok}
use Rattle.std.specs.List.{AllByRecursion}
use Rattle.script.specs.Lines.{Answered}
use Rattle.script.specs.Records.{Record, meaning}
use Rattle.runner.specs.Sessions.{session, printed}

-- a longer output begins with what a shorter one holds, and where every line had room it holds the same
abbrev pub LongerKeeps : Type 0
LongerKeeps =
    (room more : ℕ) (lines : List (ℕ × Answered)) → room ≤ more
    → ((rest : List ℕ) × ((printed more lines).0 ≡ (printed room lines).0 ++ rest))
    × ((printed room lines).1 ≡ None → printed more lines ≡ printed room lines)

-- the answers, without the places of their records
abbrev pub answers_of : List (ℕ × Answered) → List Answered
answers_of lines = map (λ a. a.1) lines

-- two scripts whose lines were printed whole, into the same text, were answered the same
abbrev pub TextTells : Type 0
TextTells =
    (room more : ℕ) (s t : List ℕ) (rs ts : List (ℕ × Record)) → AllByRecursion (λ b. b < 256) s → AllByRecursion (λ b. b < 256) t
    → meaning s ≡ Ok rs → meaning t ≡ Ok ts
    → (printed room (session rs)).1 ≡ None → (printed more (session ts)).1 ≡ None
    → (printed room (session rs)).0 ≡ (printed more (session ts)).0
    → answers_of (session rs) ≡ answers_of (session ts)
