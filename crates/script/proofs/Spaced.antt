-- The text of events, one event more at a time.
use Rattle.std.proofs.Common.{◌≡◌, ℕ, ◌+◌, ◌<◌, ◌≤◌, List, [], ◌∷◌, ◌++◌, length, get_or, take, drop, decimal, refl, ap, ◌∙◌, append_assoc, append-nil, arith, length-append, take-append-drop}
use Rattle.std.proofs.lemmas.List.{take_more}
use Rattle.script.specs.Lines.{spaced}

pub spaced-append : (xs ys : List ℕ) → spaced (xs ++ ys) ≡ spaced xs ++ spaced ys
spaced-append [] ys = refl
spaced-append (x ∷ xs) ys =
    let rest : spaced (xs ++ ys) ≡ spaced xs ++ spaced ys = spaced-append xs ys in
    let group : (decimal x ++ spaced xs) ++ spaced ys ≡ decimal x ++ (spaced xs ++ spaced ys) = append_assoc (decimal x) (spaced xs) (spaced ys) in
    cc

pub spaced-more : (xs : List ℕ) (i : ℕ) → i < length xs → spaced (take (i + 1) xs) ≡ spaced (take i xs) ++ (32 ∷ decimal (get_or xs i 0))
spaced-more xs i h =
    let more : take (i + 1) xs ≡ take i xs ++ (get_or xs i 0 ∷ []) = take_more xs i 0 h in
    let both : spaced (take i xs ++ (get_or xs i 0 ∷ [])) ≡ spaced (take i xs) ++ spaced (get_or xs i 0 ∷ []) = spaced-append (take i xs) (get_or xs i 0 ∷ []) in
    let one : decimal (get_or xs i 0) ++ [] ≡ decimal (get_or xs i 0) = append-nil (decimal (get_or xs i 0)) in
    cc

-- the text of one event more is longer by a space and its digits
pub length-spaced_more : (xs : List ℕ) (i : ℕ) → i < length xs → length (spaced (take (i + 1) xs)) ≡ length (spaced (take i xs)) + (1 + length (decimal (get_or xs i 0)))
length-spaced_more xs i h = ap length (spaced-more xs i h) ∙ simp length-append (omega arith)

-- the text of the first events is no longer than that of all
pub length-spaced_take : (xs : List ℕ) (i : ℕ) → length (spaced (take i xs)) ≤ length (spaced xs)
length-spaced_take xs i =
    let cut : take i xs ++ drop i xs ≡ xs = take-append-drop i xs in
    let both : spaced (take i xs ++ drop i xs) ≡ spaced (take i xs) ++ spaced (drop i xs) = spaced-append (take i xs) (drop i xs) in
    let whole : spaced xs ≡ spaced (take i xs) ++ spaced (drop i xs) = cc in
    omega (arith, ap length whole, length-append (spaced (take i xs)) (spaced (drop i xs)))

-- one turn of a loop over events: how much longer the text gets, and that all of it is longer still
pub spaced-turn : (xs : List ℕ) (i : ℕ) → i < length xs
    → (length (spaced (take (i + 1) xs)) ≡ length (spaced (take i xs)) + (1 + length (decimal (get_or xs i 0)))) × (length (spaced (take (i + 1) xs)) ≤ length (spaced xs))
spaced-turn xs i h = (length-spaced_more xs i h, length-spaced_take xs (i + 1))
