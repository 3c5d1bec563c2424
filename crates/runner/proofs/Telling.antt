-- Longer and shorter outputs, and what a whole text tells.
use Rattle.std.proofs.Common.{◌≡◌, ℕ, ◌-◌, cond, leb, List, [], ◌∷◌, ◌++◌, length, Some, None, Option, sym, refl, ap, ◌∙◌, subst, inl, inr, append_assoc, arith}
use Rattle.std.proofs.lemmas.Bool.{cases_lt, le-leb, lt-leb, cond_both}
use Rattle.std.specs.List.{flat_map}
use Rattle.script.specs.Lines.{Answered, rendered}
use Rattle.script.proofs.Tells.{lines_tell}
use Rattle.runner.specs.Sessions.{session, printed, after}
use Rattle.runner.proofs.Bytes.{meaning-fits}
use Rattle.runner.proofs.Fits.{session-fits}
use Rattle.runner.specs.Laws.{LongerKeeps, TextTells, answers_of}

-- two prints of which the second goes on where the first ends
abbrev Kept : List ℕ × Option ℕ → List ℕ × Option ℕ → Type 0
Kept p q = ((rest : List ℕ) × (q.0 ≡ p.0 ++ rest)) × (p.1 ≡ None → q ≡ p)

kept-after : (text : List ℕ) (p q : List ℕ × Option ℕ) → Kept p q → Kept (after text p) (after text q)
kept-after text p q kept =
    ((kept.0.0, ap (λ xs. text ++ xs) kept.0.1 ∙ sym (append_assoc text p.0 kept.0.0)), λ e. ap (after text) (kept.1 e))

kept-cut : (place : ℕ) (q : List ℕ × Option ℕ) → Kept ([], Some place) q
kept-cut place q = ((q.0, refl), λ e. let z : ◌≡◌ {A = ℕ} 0 1 = cc in absurd (omega arith))

pub longer_keeps : LongerKeeps
longer_keeps room more [] low = (([], refl), λ e. refl)
longer_keeps room more (a ∷ rest) low =
    let text = rendered a.1 in
    let n = length text in
    elim (cases_lt room n) [
      | inl long ↦
          let cut = sym (lt-leb n room long) in
          subst (λ b. Kept (cond b (after text (printed (room - n) rest)) ([], Some a.0)) (printed more (a ∷ rest))) cut
          (kept-cut a.0 (printed more (a ∷ rest)))
      | inr fits ↦
          let one = sym (le-leb n room fits) in
          let two = sym (le-leb n more (omega arith)) in
          subst (λ b. Kept (cond b (after text (printed (room - n) rest)) ([], Some a.0)) (printed more (a ∷ rest))) one
          (subst (λ b. Kept (after text (printed (room - n) rest)) (cond b (after text (printed (more - n) rest)) ([], Some a.0))) two
          (kept-after text (printed (room - n) rest) (printed (more - n) rest) (longer_keeps (room - n) (more - n) rest (omega arith))))
    ]

-- where every line had room, the text is all lines, one behind another
pub printed-whole : (room : ℕ) (lines : List (ℕ × Answered)) → (printed room lines).1 ≡ None → (printed room lines).0 ≡ flat_map rendered (answers_of lines)
printed-whole room [] = λ e. refl
printed-whole room (a ∷ rest) =
    let text = rendered a.1 in
    cond_both (leb (length text) room) (after text (printed (room - length text) rest)) ([], Some a.0)
    (λ p. p.1 ≡ None → p.0 ≡ flat_map rendered (a.1 ∷ answers_of rest))
    (λ _ e. ap (λ xs. text ++ xs) (printed-whole (room - length text) rest e))
    (λ _ e. let z : ◌≡◌ {A = ℕ} 0 1 = cc in absurd (omega arith))

pub text_tells : TextTells
text_tells room more s t rs ts bytes bytes' is is' whole whole' same =
    lines_tell (answers_of (session rs)) (answers_of (session ts))
    (session-fits rs (meaning-fits s rs bytes is)) (session-fits ts (meaning-fits t ts bytes' is'))
    (sym (printed-whole room (session rs) whole) ∙ (same ∙ printed-whole more (session ts) whole'))
