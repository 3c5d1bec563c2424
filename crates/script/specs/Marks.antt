-- The marks, two bytes each. Assumes nothing.
use Rattle.std.specs.Prelude.{ℕ, cond, List, [], ◌∷◌, Some, None, codes, Option}
use Rattle.std.specs.Str.{bytes_eq}
use Rattle.script.specs.declared.mark.Mark.{Mark}
use Rattle.script.specs.declared.mark.Mark.TheVariants as mark

abbrev pub letters : Mark → List ℕ
letters mark.Opening = codes "CH"
letters mark.Register = codes "RG"
letters mark.WouldWrite = codes "WW"
letters mark.Write = codes "WR"
letters mark.Read = codes "RD"
letters mark.Close = codes "CL"

abbrev pub marks : List Mark
marks = mark.Opening ∷ mark.Register ∷ mark.WouldWrite ∷ mark.Write ∷ mark.Read ∷ mark.Close ∷ []

abbrev pub among : List ℕ → List Mark → Option Mark
among bytes [] = None
among bytes (m ∷ ms) = cond (bytes_eq bytes (letters m)) (Some m) (among bytes ms)

-- the mark that these bytes are, if they are one
abbrev pub mark_of : List ℕ → Option Mark
mark_of bytes = among bytes marks
