-- What the program's records and faults stand for. Assumes nothing.
use Rattle.std.specs.Prelude.{◌≡◌, ℕ, true, cond, List, length, is_ok, Some, None, Ok, Err, Option, Result, nat_lt}
use Rattle.source.specs.declared.fault.Fault.{Fault}
use Rattle.source.specs.Faults.{number_of}
use Rattle.script.specs.declared.record.Record.{Record as Parsed}
use Rattle.script.specs.declared.record.Record.TheVariants as code
use Rattle.script.specs.declared.check.ScriptFault.{ScriptFault}
use Rattle.script.specs.declared.mark.Mark.{Mark}
use Rattle.script.specs.Marks.{mark_of}
use Rattle.script.specs.Records.{Record, opening, register, would_write, write, read, close, numbers, meaning}

-- bytes that are a mark; 15 where they are fewer than two, and 14 for any others
abbrev pub told : List ℕ → Option Mark → Result Mark ℕ
told bytes (Some m) = Ok m
told bytes None = cond (nat_lt (length bytes) 2) (Err 15) (Err 14)

abbrev pub numbered : Result Mark Fault → Result Mark ℕ
numbered (Ok m) = Ok m
numbered (Err fault) = Err (number_of fault)

abbrev pub Marked : List ℕ → Result Mark Fault → Type 0
Marked bytes result = numbered result ≡ told bytes (mark_of bytes)

abbrev pub meant : Parsed → Record
meant (code.Opening size) = opening size
meant code.Register = register
meant code.WouldWrite = would_write
meant (code.Write events) = write (numbers events.bytes.now)
meant (code.Read reader) = read reader
meant (code.Close reader) = close reader

abbrev pub read_out : Result (Parsed × ℕ) Fault → Result (Record × ℕ) ℕ
read_out (Ok found) = Ok (meant found.0, found.1)
read_out (Err fault) = Err (number_of fault)

-- the check passes exactly the scripts that mean a list of records, and tells the fault of any other
abbrev pub Checked : List ℕ → Result (Unit {0}) ScriptFault → Type 0
Checked script (Ok passed) = is_ok (meaning script) ≡ true
Checked script (Err found) = meaning script ≡ Err (number_of found.fault, found.at)
