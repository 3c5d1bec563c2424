-- What the records of a script are answered, by the ledger alone, and what is printed of it. Assumes nothing.
use Rattle.std.specs.Prelude.{ℕ, ◌-◌, cond, List, [], ◌∷◌, ◌++◌, length, Some, None, Option, nat_le}
use Rattle.ledger.specs.Ledger as ledger
use Rattle.ledger.specs.Ledger.{Ledger, Answer, outcome, opening_refusal, fresh}
use Rattle.script.specs.declared.mark.Mark.{Mark}
use Rattle.script.specs.declared.mark.Mark.TheVariants as mark
use Rattle.script.specs.Records.{Record, opening, register, would_write, write, read, close}
use Rattle.script.specs.Lines as line
use Rattle.script.specs.Lines.{Answered, rendered}

-- the slots of a script's channel
abbrev pub slot_count : ℕ
slot_count = 1024

-- a call's answer as a line's fields; the mark and the reader are those of its record
abbrev pub told : Mark → ℕ → Answer ℕ → Answered
told m reader (ledger.refused number) = line.refused m number
told m reader (ledger.registered number) = line.registered number
told m reader (ledger.wrote w) = line.wrote w.count w.size
told m reader (ledger.handed events) = line.handed reader events
told m reader ledger.closed = line.closed reader

abbrev pub shows : Mark → ℕ → Answer ℕ × Ledger ℕ → Answered × Ledger ℕ
shows m reader done = (told m reader done.0, done.1)

-- what a record's call answers, and the ledger afterwards. A second opening never comes: a script that has one is a fault.
abbrev pub answered : Ledger ℕ → Record → Answered × Ledger ℕ
answered l (opening size) = (line.opened size, l)
answered l register = shows mark.Register 0 (outcome l ledger.register)
answered l would_write = (line.would_write (ledger.would_write l), l)
answered l (write events) = shows mark.Write 0 (outcome l (ledger.write slot_count events))
answered l (read reader) = shows mark.Read reader (outcome l (ledger.read slot_count l.instance reader))
answered l (close reader) = shows mark.Close reader (outcome l (ledger.close l.instance reader))

-- what records are answered one after another, each with its place
abbrev pub answers : Ledger ℕ → List (ℕ × Record) → List (ℕ × Answered)
answers l [] = []
answers l (r ∷ rs) = (r.0, (answered l r.1).0) ∷ answers (answered l r.1).1 rs

-- a refused opening is answered by its number, and nothing comes after it
abbrev pub begun : Option ℕ → ℕ → ℕ → List (ℕ × Record) → List (ℕ × Answered)
begun (Some number) at size rest = (at, line.refused mark.Opening number) ∷ []
begun None at size rest = (at, line.opened size) ∷ answers (fresh 0 size slot_count) rest

-- the first record opens the channel, under the instance number 0; no script means a list that begins otherwise
abbrev pub first : ℕ → Record → List (ℕ × Record) → List (ℕ × Answered)
first at (opening size) rest = begun (opening_refusal 0 size slot_count) at size rest
first at register rest = []
first at would_write rest = []
first at (write events) rest = []
first at (read reader) rest = []
first at (close reader) rest = []

-- what the records of a script are answered
abbrev pub session : List (ℕ × Record) → List (ℕ × Answered)
session [] = []
session (r ∷ rs) = first r.0 r.1 rs

abbrev pub after : List ℕ → List ℕ × Option ℕ → List ℕ × Option ℕ
after text rest = (text ++ rest.0, rest.1)

-- the lines in order, up to the first that has no room, and the place of that one's record, if there is one
abbrev pub printed : ℕ → List (ℕ × Answered) → List ℕ × Option ℕ
printed room [] = ([], None)
printed room (a ∷ rest) =
    cond (nat_le (length (rendered a.1)) room)
    (after (rendered a.1) (printed (room - length (rendered a.1)) rest))
    ([], Some a.0)
