-- Two runs that are copied to the front of a list.
use Rattle.std.proofs.Common.{◌≡◌, ◌+◌, ◌∙◌, List, ◌++◌, length, drop}
use Rattle.std.proofs.Math.Seq.{drop-append-add, drop-append_seam}
use Rattle.std.proofs.lemmas.List.{drop-drop}

-- what lies past both stays
pub past_both : {X : Type 0} (log xs ys : List X) → drop (length xs + length ys) (xs ++ (ys ++ drop (length ys) (drop (length xs) log))) ≡ drop (length xs + length ys) log
past_both log xs ys =
    let rest = drop (length ys) (drop (length xs) log) in
    drop-append-add xs (ys ++ rest) (length ys) ∙ drop-append_seam ys rest ∙ drop-drop (length ys) (length xs) log
