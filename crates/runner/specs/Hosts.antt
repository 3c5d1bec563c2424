-- What a host sees of a run. Assumes nothing.
use Rattle.std.specs.Prelude.{◌≡◌, ℕ, List, length, ℤ, pos, neg_ℤ, Some, None, Ok, Err, Option, Result}
use Rattle.std.proofs.Math.Seq.{paste}
use Rattle.script.specs.Records.{Record, meaning}
use Rattle.runner.specs.Sessions.{session, printed}

-- the length of a text, or minus 16 where a line had no room
abbrev pub counted : List ℕ → Option ℕ → ℤ
counted text None = pos (length text)
counted text (Some place) = neg_ℤ (pos 16)

-- the answer, and the output before and after, of a script that means this: minus the fault's number, with the output as
-- it was; or the lines' length, with no byte changed but theirs
abbrev pub Answers : Result (List (ℕ × Record)) (ℕ × ℕ) → List ℕ → List ℕ → ℤ → Type 0
Answers (Err fault) before after answer = (answer ≡ neg_ℤ (pos fault.0)) × (after ≡ before)
Answers (Ok records) before after answer =
    (answer ≡ counted (printed (length before) (session records)).0 (printed (length before) (session records)).1)
    × (after ≡ paste before 0 (printed (length before) (session records)).0 (length (printed (length before) (session records)).0))

abbrev pub Hosted : List ℕ → List ℕ → List ℕ → ℤ → Type 0
Hosted script before after answer = Answers (meaning script) before after answer
