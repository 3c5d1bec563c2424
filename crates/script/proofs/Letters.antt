-- A comparison of bytes as a test, and the mark that letters are.
use Rattle.std.proofs.Common.{◌≡◌, ℕ, Bool, List, Some, sym, refl, ◌∙◌}
use Rattle.std.specs.Str.{bytes_eq}
use Rattle.script.specs.declared.mark.Mark.{Mark}
use Rattle.script.specs.declared.mark.Mark.TheVariants as mark
use Rattle.script.specs.Marks.{letters, mark_of}

pub tested : (xs ys : List ℕ) (r t : Bool) → r ≡ bytes_eq xs ys → r ≡ t → bytes_eq xs ys ≡ t
tested xs ys r t m e = sym m ∙ e

pub mark_of_letters : (m : Mark) → mark_of (letters m) ≡ Some m
mark_of_letters mark.Opening = refl
mark_of_letters mark.Register = refl
mark_of_letters mark.WouldWrite = refl
mark_of_letters mark.Write = refl
mark_of_letters mark.Read = refl
mark_of_letters mark.Close = refl
