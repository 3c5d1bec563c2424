-- Scripts and lines whose meaning is known, as a check of the definitions. Assumes nothing.
use Rattle.std.specs.Prelude.{◌≡◌, ℕ, false, List, [], ◌∷◌, ◌++◌, Ok, Err, codes}
use Rattle.std.specs.List.{flat_map}
use Rattle.script.specs.declared.mark.Mark.TheVariants as mark
use Rattle.script.specs.Records.{opening, register, would_write, write, read, close, meaning}
use Rattle.script.specs.Lines as line
use Rattle.script.specs.Lines.{rendered}

-- CH with a size of 2
abbrev pub sized_two : List ℕ
sized_two = codes "CH" ++ (0 ∷ 2 ∷ [])

-- the earlier record decides, and at one record 13 comes before 14, and 14 before 15
pub record KnownFaults : Type 0 where
  pub nothing : meaning [] ≡ Err (13, 0)
  pub unknown_first : meaning (codes "XX") ≡ Err (13, 0)
  pub one_byte : meaning (codes "Z") ≡ Err (13, 0)
  pub no_size : meaning (codes "CH") ≡ Err (15, 0)
  pub half_a_size : meaning (codes "CH" ++ (0 ∷ [])) ≡ Err (15, 0)
  pub second_opening : meaning (sized_two ++ codes "CH") ≡ Err (13, 4)
  pub unknown_later : meaning (sized_two ++ codes "XX") ≡ Err (14, 4)
  pub one_byte_later : meaning (sized_two ++ codes "Z") ≡ Err (15, 4)
  pub no_count : meaning (sized_two ++ codes "WR") ≡ Err (15, 4)
  pub earlier_decides : meaning (sized_two ++ (codes "XX" ++ sized_two)) ≡ Err (14, 4)

-- every kind of record, and what the calls answer
abbrev pub sample : List ℕ
sample =
    sized_two ++ (codes "RG" ++ (codes "WR" ++ (2 ∷ 0 ∷ 0 ∷ 0 ∷ 7 ∷ 0 ∷ 1 ∷ 91 ∷ 56 ∷ (codes "RD" ++ (0 ∷ (codes "CL" ++ (0 ∷ codes "WW")))))))

pub record KnownLines : Type 0 where
  pub records :
      meaning sample
      ≡ Ok ((0, opening 2) ∷ (4, register) ∷ (6, write (7 ∷ 88888 ∷ [])) ∷ (17, read 0) ∷ (20, close 0) ∷ (23, would_write) ∷ [])
  pub text :
      flat_map rendered (line.opened 2 ∷ line.registered 0 ∷ line.wrote 2 2 ∷ line.handed 0 (7 ∷ 88888 ∷ []) ∷ line.handed 0 [] ∷ line.closed 0 ∷ line.would_write false ∷ line.refused mark.Write 8 ∷ [])
      ≡ codes "CH 2\nRG 0\nWR 2 2\nRD 0: 7 88888\nRD 0:\nCL 0\nWW 0\nWR no 8\n"
