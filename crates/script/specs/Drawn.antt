-- What the records of a script are drawn as, one after another. Assumes nothing.
use Rattle.std.specs.Prelude.{◌≡◌, ℕ, ◌+◌, ◌-◌, cond, List, [], length, Some, None, Ok, Err, Option, Result, nat_le}
use Rattle.std.specs.Option.{option_map}
use Rattle.source.specs.Faults.{number_of}
use Rattle.script.specs.declared.record.Record.{Record as Parsed}
use Rattle.script.specs.declared.check.ScriptFault.{ScriptFault}
use Rattle.script.specs.declared.records.Records.{Records}
use Rattle.script.specs.Parsed.{meant}
use Rattle.script.specs.Records.{Record, record_of, rest_of}

-- a record with its place, or a fault's number with the place
abbrev pub drawn_out : Result (ℕ × Parsed) ScriptFault → Result (ℕ × Record) (ℕ × ℕ)
drawn_out (Ok found) = Ok (found.0, meant found.1)
drawn_out (Err found) = Err (number_of found.fault, found.at)

-- what is drawn where this record or fault stands, and the place behind it, if any byte is left; behind a fault is none
abbrev pub drawn_as : List ℕ → ℕ → Result (Record × ℕ) ℕ → Result (ℕ × Record) (ℕ × ℕ) × Option ℕ
drawn_as script at (Ok found) = (Ok (at, found.0), cond (nat_le (length script) (at + found.1)) None (Some (at + found.1)))
drawn_as script at (Err fault) = (Err (fault, at), None)

-- the same of a place, if there is one
abbrev pub drawn : List ℕ → Option ℕ → Option (Result (ℕ × Record) (ℕ × ℕ)) × Option ℕ
drawn script None = (None, None)
drawn script (Some at) = (Some (drawn_as script at (record_of script at)).0, (drawn_as script at (record_of script at)).1)

-- one draw of an iterator over a script
pub record Draws (before : Records) (result : Option (Result (ℕ × Parsed) ScriptFault)) (after : Records) : Type 0 where
  pub script : after.script ≡ before.script
  pub item : option_map drawn_out result ≡ (drawn before.script.now before.next).0
  pub next : after.next ≡ (drawn before.script.now before.next).1

-- how many bytes could begin a record still, and one place more
abbrev pub bytes_left_at : List ℕ → Option ℕ → ℕ
bytes_left_at script None = 0
bytes_left_at script (Some at) = length script - at + 1

abbrev pub bytes_left : Records → ℕ
bytes_left s = bytes_left_at s.script.now s.next

-- the records from a place on, if there is one, as `meaning` has them
abbrev pub records_left : List ℕ → Option ℕ → Result (List (ℕ × Record)) (ℕ × ℕ)
records_left script None = Ok []
records_left script (Some at) = rest_of script at
