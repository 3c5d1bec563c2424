-- How long a line and its fields are.
use Rattle.std.proofs.Common.{◌≡◌, ℕ, ◌+◌, Bool, true, false, cond, leb, List, ◌∷◌, ◌++◌, length, decimal, refl, sym, ap, ◌∙◌, append_assoc, arith, length-append, Bor}
use Rattle.script.specs.declared.mark.Mark.{Mark}
use Rattle.script.specs.declared.mark.Mark.TheVariants as mark
use Rattle.script.specs.declared.line.Line.{Line}
use Rattle.script.specs.declared.line.Line.TheVariants as code
use Rattle.script.specs.Marks.{letters}
use Rattle.script.specs.Lines.{Answered, answering, wrote, handed, refused, spaced, line, fields, rendered, shown}
use Rattle.script.proofs.Pastes.{length-one}
use Rattle.script.proofs.Spaced.{spaced-append}

pub length-letters : (m : Mark) → length (letters m) ≡ 2
length-letters mark.Opening = refl
length-letters mark.Register = refl
length-letters mark.WouldWrite = refl
length-letters mark.Write = refl
length-letters mark.Read = refl
length-letters mark.Close = refl

-- two letters, a space and a line feed stand around the fields
pub length-line : (m : Mark) (text : List ℕ) → length (line m text) ≡ 4 + length text
length-line m text = let two = length-letters m in simp length-append (omega arith)

-- a width held against the room is the line's length held against it
pub fits_line : (l : Line) (a : Answered) (n room : ℕ) → shown l ≡ a → n ≡ 4 + length (fields a) → leb n room ≡ leb (length (rendered (shown l))) room
fits_line l a n room is e = let long = length-line (answering (shown l)) (fields (shown l)) in cc

pub fits_told : (l : Line) (a : Answered) (n room : ℕ) (r : Bool) → r ≡ leb n room → shown l ≡ a → n ≡ 4 + length (fields a) → r ≡ leb (length (rendered (shown l))) room
fits_told l a n room r told is e = told ∙ fits_line l a n room is e

pub length-flag : (b : Bool) → length (decimal (cond b 1 0)) ≡ 1
length-flag true = length-one 1 (omega arith)
length-flag false = length-one 0 (omega arith)

pub length-wrote : (count size : ℕ) → length (fields (wrote count size)) ≡ length (decimal count) + (1 + length (decimal size))
length-wrote count size = simp length-append (omega arith)

pub length-refused : (m : Mark) (n : ℕ) → length (fields (refused m n)) ≡ 3 + length (decimal n)
length-refused m n = omega arith

pub length-handed : (reader : ℕ) (first second : List ℕ)
    → length (fields (handed reader (first ++ second))) ≡ length (decimal reader) + (1 + (length (spaced first) + length (spaced second)))
length-handed reader first second =
    let both = ap length (spaced-append first second) in simp length-append (omega (arith, length-append (spaced first) (spaced second)))

-- the same of a line that is known
pub wrote-long : (l : Line) (count size : ℕ) → l ≡ code.Wrote count size → length (fields (shown l)) ≡ length (decimal count) + (1 + length (decimal size))
wrote-long l count size is = ap (λ k. length (fields (shown k))) is ∙ length-wrote count size

pub handed-long : (l : Line) (reader : ℕ) (first second : Bor (List ℕ)) → l ≡ code.Handed reader first second
    → length (fields (shown l)) ≡ length (decimal reader) + (1 + (length (spaced first.now) + length (spaced second.now)))
handed-long l reader first second is = ap (λ k. length (fields (shown k))) is ∙ length-handed reader first.now second.now

-- a number, a colon and both runs of events are the fields
pub handed-text : (reader : ℕ) (first second : List ℕ) → (decimal reader ++ (58 ∷ spaced first)) ++ spaced second ≡ fields (handed reader (first ++ second))
handed-text reader first second =
    append_assoc (decimal reader) (58 ∷ spaced first) (spaced second) ∙ ap (λ xs. decimal reader ++ (58 ∷ xs)) (sym (spaced-append first second))
