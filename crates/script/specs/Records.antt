-- What the bytes of a script mean. Assumes nothing.
use Rattle.std.specs.Prelude.{ℕ, zero, suc, ◌+◌, ◌-◌, ◌*◌, Bool, true, false, cond, List, [], ◌∷◌, length, take, drop, Some, None, Ok, Err, codes, Option, Result, ◌==◌, nat_le, nat_lt, slice_index}
use Rattle.std.specs.Int.Digits.{number_from_digits}
use Rattle.std.specs.Str.{bytes_eq}
use Rattle.script.specs.declared.mark.Mark.{Mark}
use Rattle.script.specs.declared.mark.Mark.TheVariants as mark
use Rattle.script.specs.Marks.{mark_of}

pub data Record : Type 0 where
  opening : ℕ → Record
  register : Record
  would_write : Record
  write : List ℕ → Record
  read : ℕ → Record
  close : ℕ → Record

-- numbers of four bytes each, big-endian, so in base 256; fewer than four bytes at the end are no number
abbrev pub numbers : List ℕ → List ℕ
numbers [] = []
numbers (a ∷ []) = []
numbers (a ∷ b ∷ []) = []
numbers (a ∷ b ∷ c ∷ []) = []
numbers (a ∷ b ∷ c ∷ d ∷ rest) = number_from_digits 256 (a ∷ b ∷ c ∷ d ∷ []) ∷ numbers rest

-- how many bytes a record has that begins with this mark. Where the count of a write is missing, 0 stands for it, and
-- the record is longer than the bytes all the same.
abbrev pub size_of : Mark → List ℕ → ℕ
size_of mark.Opening bytes = 4
size_of mark.Register bytes = 2
size_of mark.WouldWrite bytes = 2
size_of mark.Write bytes = 3 + 4 * slice_index bytes 2
size_of mark.Read bytes = 3
size_of mark.Close bytes = 3

-- the record that begins with this mark, where all its bytes are there
abbrev pub whole : Mark → List ℕ → Record
whole mark.Opening bytes = opening (number_from_digits 256 (take 2 (drop 2 bytes)))
whole mark.Register bytes = register
whole mark.WouldWrite bytes = would_write
whole mark.Write bytes = write (numbers (take (4 * slice_index bytes 2) (drop 3 bytes)))
whole mark.Read bytes = read (slice_index bytes 2)
whole mark.Close bytes = close (slice_index bytes 2)

-- the record with its length in bytes; 15 where the bytes end before it does
abbrev pub body : Mark → List ℕ → Result (Record × ℕ) ℕ
body m bytes = cond (nat_le (size_of m bytes) (length bytes)) (Ok (whole m bytes, size_of m bytes)) (Err 15)

-- less than two bytes are 15; two bytes that are no mark are 14, whatever follows
abbrev pub marked : Option Mark → List ℕ → Result (Record × ℕ) ℕ
marked (Some m) bytes = body m bytes
marked None bytes = cond (nat_lt (length bytes) 2) (Err 15) (Err 14)

abbrev pub opens : List ℕ → Bool
opens bytes = bytes_eq (take 2 bytes) (codes "CH")

-- the record at the start of these bytes with its length, or the number of its fault. 13 comes before all else: the
-- first record doesn't begin with CH, whatever it is, or a later one does, complete or not.
abbrev pub record_at : Bool → List ℕ → Result (Record × ℕ) ℕ
record_at true bytes = cond (opens bytes) (marked (mark_of (take 2 bytes)) bytes) (Err 13)
record_at false bytes = cond (opens bytes) (Err 13) (marked (mark_of (take 2 bytes)) bytes)

-- the same at a place of a script. The first record is the one at place 0; past the end there are no bytes.
abbrev pub record_of : List ℕ → ℕ → Result (Record × ℕ) ℕ
record_of script at = record_at (at == 0) (drop at script)

-- a record with its place, put before those that follow it
abbrev pub before : ℕ → Record → Result (List (ℕ × Record)) (ℕ × ℕ) → Result (List (ℕ × Record)) (ℕ × ℕ)
before at r (Ok rest) = Ok ((at, r) ∷ rest)
before at r (Err fault) = Err fault

-- a fault ends it all, with the place of its record; behind a record come those from the next place on, if any byte is left
abbrev pub onward : List ℕ → ℕ → Result (Record × ℕ) ℕ → (ℕ → Result (List (ℕ × Record)) (ℕ × ℕ)) → Result (List (ℕ × Record)) (ℕ × ℕ)
onward script at (Err fault) from = Err (fault, at)
onward script at (Ok found) from =
    before at found.0 (cond (nat_le (length script) (at + found.1)) (Ok []) (from (at + found.1)))

-- the first `most` records from a place on
abbrev pub records_from : ℕ → List ℕ → ℕ → Result (List (ℕ × Record)) (ℕ × ℕ)
records_from zero script at = Ok []
records_from (suc most) script at = onward script at (record_of script at) (records_from most script)

-- all of them: each has two bytes at least, so there are no more than bytes
abbrev pub rest_of : List ℕ → ℕ → Result (List (ℕ × Record)) (ℕ × ℕ)
rest_of script at = records_from (length script + 1 - at) script at

-- a whole script: its records in order, each with the place where it begins; or its first fault, with the place of the
-- faulty record
abbrev pub meaning : List ℕ → Result (List (ℕ × Record)) (ℕ × ℕ)
meaning script = rest_of script 0
