-- What a reader of the output can tell from it. Assumes nothing.
use Rattle.std.specs.Prelude.{◌≡◌, ℕ, ◌^◌, ◌<◌, List, [], ◌∷◌, ◌++◌, ◌≢◌}
use Rattle.std.specs.List.{flat_map, AllByRecursion}
use Rattle.script.specs.Lines.{Answered, opened, registered, would_write, wrote, handed, closed, refused, rendered}

-- every number fits 64 bits, as every number of the program does
abbrev pub Fitting : Answered → Type 0
Fitting (opened size) = size < 2 ^ 64
Fitting (registered reader) = reader < 2 ^ 64
Fitting (would_write yes_or_no) = Unit {0}
Fitting (wrote count size) = (count < 2 ^ 64) × (size < 2 ^ 64)
Fitting (handed reader events) = (reader < 2 ^ 64) × AllByRecursion (λ e. e < 2 ^ 64) events
Fitting (closed reader) = reader < 2 ^ 64
Fitting (refused m number) = number < 2 ^ 64

-- a line feed, 10, ends a line and stands nowhere else in it
abbrev pub OneFeed : Type 0
OneFeed = (a : Answered) → Fitting a → (text : List ℕ) × (rendered a ≡ text ++ (10 ∷ [])) × AllByRecursion (λ c. c ≢ 10) text

-- a line tells its mark and fields, whatever follows it, and where it ends
abbrev pub LineTells : Type 0
LineTells =
    (a b : Answered) (s t : List ℕ) → Fitting a → Fitting b → rendered a ++ s ≡ rendered b ++ t → (a ≡ b) × (s ≡ t)

-- lines one behind another tell the list of answers
abbrev pub LinesTell : Type 0
LinesTell =
    (xs ys : List Answered) → AllByRecursion Fitting xs → AllByRecursion Fitting ys → flat_map rendered xs ≡ flat_map rendered ys → xs ≡ ys
