-- What a write at a cursor leaves. Assumes nothing.
use Rattle.std.specs.Prelude.{◌≡◌, ℕ, ◌+◌, List, length}
use Rattle.std.proofs.Math.Seq.{paste}
use Rattle.script.specs.declared.cursor.Cursor.{Cursor}

-- the text stands at the old place, and the new one is behind it, in the same output
pub record Writes (before after : Cursor) (text : List ℕ) : Type 0 where
  pub same : after.out.ghost_name ≡ before.out.ghost_name
  pub at : after.at ≡ before.at + length text
  pub out : after.out.now ≡ paste before.out.now before.at text (length text)
