-- The lines of the output, byte by byte. Assumes nothing.
use Rattle.std.specs.Prelude.{◌≡◌, ℕ, ◌+◌, ◌<◌, ◌≤◌, Bool, cond, List, [], ◌∷◌, ◌++◌, length, Ok, Err, codes, decimal, Result}
use Rattle.std.proofs.Math.Seq.{paste}
use Rattle.source.specs.declared.fault.Fault.{Fault}
use Rattle.source.specs.Faults.{number_of}
use Rattle.script.specs.declared.mark.Mark.{Mark}
use Rattle.script.specs.declared.mark.Mark.TheVariants as mark
use Rattle.script.specs.declared.line.Line.{Line}
use Rattle.script.specs.declared.line.Line.TheVariants as code
use Rattle.script.specs.Marks.{letters}

-- a line's fields: what a call answered
pub data Answered : Type 0 where
  opened : ℕ → Answered
  registered : ℕ → Answered
  would_write : Bool → Answered
  wrote : ℕ → ℕ → Answered
  handed : ℕ → List ℕ → Answered
  closed : ℕ → Answered
  refused : Mark → ℕ → Answered

-- each event in decimal, with a space before it
abbrev pub spaced : List ℕ → List ℕ
spaced [] = []
spaced (e ∷ es) = 32 ∷ (decimal e ++ spaced es)

-- a mark, a space, the fields, a line feed
abbrev pub line : Mark → List ℕ → List ℕ
line m fields = letters m ++ (32 ∷ (fields ++ (10 ∷ [])))

-- the mark of the record that is answered
abbrev pub answering : Answered → Mark
answering (opened size) = mark.Opening
answering (registered reader) = mark.Register
answering (would_write yes_or_no) = mark.WouldWrite
answering (wrote count size) = mark.Write
answering (handed reader events) = mark.Read
answering (closed reader) = mark.Close
answering (refused m number) = m

-- would-write answers 1 for yes and 0 for no; a colon, 58, follows the reader that was handed events
abbrev pub fields : Answered → List ℕ
fields (opened size) = decimal size
fields (registered reader) = decimal reader
fields (would_write yes_or_no) = decimal (cond yes_or_no 1 0)
fields (wrote count size) = decimal count ++ (32 ∷ decimal size)
fields (handed reader events) = decimal reader ++ (58 ∷ spaced events)
fields (closed reader) = decimal reader
fields (refused m number) = codes "no " ++ decimal number

abbrev pub rendered : Answered → List ℕ
rendered a = line (answering a) (fields a)

-- the answer that a line of the program stands for; the events come in two runs, the first before the second
abbrev pub shown : Line → Answered
shown (code.Opened size) = opened size
shown (code.Registered reader) = registered reader
shown (code.WouldWrite yes_or_no) = would_write yes_or_no
shown (code.Wrote count size) = wrote count size
shown (code.Handed reader first second) = handed reader (first.now ++ second.now)
shown (code.Closed reader) = closed reader
shown (code.Refused m fault) = refused m (number_of fault)

-- writing a text from the place `at` on: the place after it, and no byte changed but those of the text; or 16, when it
-- doesn't fit, and no byte changed at all
abbrev pub Put : List ℕ → ℕ → List ℕ → List ℕ → Result ℕ Fault → Type 0
Put before at text after (Ok end) =
    (end ≡ at + length text) × (end ≤ length before) × (after ≡ paste before at text (length text))
Put before at text after (Err fault) = (number_of fault ≡ 16) × (length before < at + length text) × (after ≡ before)
