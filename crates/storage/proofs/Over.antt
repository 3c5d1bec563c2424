-- A loop that writes f x over each element x of a list.
use Rattle.std.proofs.Common.{◌≡◌, ℕ, ◌+◌, ◌<◌, ◌≤◌, List, ◌++◌, map, length, get_or, take, drop, set, ap, ◌∙◌, arith, length-append, length-drop}
use Rattle.std.proofs.lemmas.List.{take_all, drop_all, append-nil, get_or_default, length-map, length-take-le}
use Rattle.std.proofs.lemmas.List.Edits.{map_over_more}

-- the list after i turns
abbrev pub over : {X : Type 0} → (X → X) → List X → ℕ → List X
over f xs i = map f (take i xs) ++ drop i xs

-- one more turn
pub over_more : {X : Type 0} (f : X → X) (xs ys : List X) (i : ℕ) (d y : X) → i < length xs → ys ≡ over f xs i → y ≡ f (get_or ys i d) → set ys i y ≡ over f xs (i + 1)
over_more f xs ys i d y lt is to =
    let front : length (map f (take i xs)) ≡ i = length-map (take i xs) f ∙ length-take-le i xs (omega arith) in
    let same : length ys ≡ length xs = ap length is ∙ simp (length-append, length-drop) (omega arith) in
    ap (λ v. set ys i v) to ∙ map_over_more f xs ys i (get_or ys i d) lt is (get_or_default ys i d (get_or ys i d) (omega arith))

-- at the end
pub over_all : {X : Type 0} (f : X → X) (xs ys : List X) (n : ℕ) → length xs ≤ n → ys ≡ over f xs n → ys ≡ map f xs
over_all f xs ys n le is = is ∙ rw (take_all n xs le, drop_all n xs le) (append-nil (map f xs))
