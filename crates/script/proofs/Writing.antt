-- Texts written one behind another at a cursor.
use Rattle.std.proofs.Common.{◌≡◌, ℕ, ◌+◌, ◌≤◌, List, [], ◌∷◌, ◌++◌, length, refl, ap, ◌∙◌, append_assoc, arith, length-append, subst}
use Rattle.std.proofs.lemmas.List.Edits.{paste_none, length-paste}
use Rattle.script.specs.declared.cursor.Cursor.{Cursor}
use Rattle.script.specs.Written.{Writes}
use Rattle.script.proofs.Pastes.{put_then}

pub writes_none : (a : Cursor) → Writes a a []
writes_none a = record { same = refl; at = omega arith; out = paste_none a.out.now a.at [] }

-- the output keeps its length
pub writes-long : (a b : Cursor) (s : List ℕ) → a.at + length s ≤ length a.out.now → Writes a b s → length b.out.now ≡ length a.out.now
writes-long a b s room w = ap length w.out ∙ length-paste a.out.now a.at s (length s) room (omega arith)

pub writes_then : (a b c : Cursor) (s t : List ℕ) → a.at + length s ≤ length a.out.now → Writes a b s → Writes b c t → Writes a c (s ++ t)
writes_then a b c s t room v w =
    let low : a.at ≤ length a.out.now = omega arith in
    record {
      same = w.same ∙ v.same;
      at = simp length-append (omega (arith, v.at, w.at));
      out = put_then a.out.now b.out.now c.out.now s t (s ++ t) a.at b.at (length t) low v.at refl v.out w.out refl;
    }

-- a text, a byte and another text
pub writes_more : (a b c d : Cursor) (s t : List ℕ) (x : ℕ) → a.at + (length s + 1) ≤ length a.out.now → Writes a b s → Writes b c (x ∷ []) → Writes c d t
    → Writes a d (s ++ (x ∷ t))
writes_more a b c d s t x room u v w =
    let both = writes_then a b c s (x ∷ []) (omega arith) u v in
    let all = writes_then a c d (s ++ (x ∷ [])) t (simp length-append (omega arith)) both w in
    subst (Writes a d) (append_assoc s (x ∷ []) t) all
