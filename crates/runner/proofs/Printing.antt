-- How much is printed in a room.
use Rattle.std.proofs.Common.{◌≡◌, ℕ, ◌-◌, ◌≤◌, true, leb, List, [], ◌∷◌, length, is_ok, Some, Ok, Err, Option, Result, refl, arith, length-append}
use Rattle.std.proofs.lemmas.Bool.{cond_both, leb-true}
use Rattle.script.specs.Lines.{Answered, rendered}
use Rattle.script.specs.Records.{Record}
use Rattle.runner.specs.declared.run.Ran.{Ran}
use Rattle.runner.specs.Sessions.{session, printed, after}
use Rattle.runner.specs.Runs.{Wrote, Ends}

short_after : (text : List ℕ) (p : List ℕ × Option ℕ) (room : ℕ) → length text ≤ room → length p.0 ≤ room - length text → length (after text p).0 ≤ room
short_after text p room fits more = simp length-append (omega arith)

-- the finished lines are no longer than the room
pub printed-within : (room : ℕ) (xs : List (ℕ × Answered)) → length (printed room xs).0 ≤ room
printed-within room [] = omega arith
printed-within room (a ∷ rest) =
    cond_both (leb (length (rendered a.1)) room)
    (after (rendered a.1) (printed (room - length (rendered a.1)) rest)) ([], Some a.0)
    (λ p. length p.0 ≤ room)
    (λ e.
    short_after (rendered a.1) (printed (room - length (rendered a.1)) rest) room
    (leb-true (length (rendered a.1)) room e) (printed-within (room - length (rendered a.1)) rest))
    (λ e. omega arith)

-- a script that passed the check means a list
pub ends_of : (m : Result (List (ℕ × Record)) (ℕ × ℕ)) (before out : List ℕ) (r : Ran) → is_ok m ≡ true
    → ((records : List (ℕ × Record)) → m ≡ Ok records → Wrote before 0 (printed (length before) (session records)) out r)
    → Ends m before out r
ends_of (Ok records) before out r passed all = all records refl
ends_of (Err fault) before out r passed all = let z : ◌≡◌ {A = ℕ} 0 1 = cc in absurd (omega arith)
