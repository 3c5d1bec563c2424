-- What holds of each element of a list, said by recursion, holds of a list that is joined, changed or cut.
use Rattle.std.proofs.Common.{ℕ, List, ◌++◌, set, take, drop}
use Rattle.std.specs.List.{AllByRecursion}
use Rattle.std.proofs.lemmas.List.Elements as elements
use Rattle.std.proofs.lemmas.List.Elements.{All-from_recursion as from, recursion_from_All as to}

module _ {X : Type 0} (P : X → Type 0) where
  pub All-append : (xs ys : List X) → AllByRecursion P xs → AllByRecursion P ys → AllByRecursion P (xs ++ ys)
  All-append xs ys h k = to P (xs ++ ys) (elements.All-append P xs ys (from P xs h) (from P ys k))

  pub All-set : (xs : List X) (i : ℕ) (a : X) → P a → AllByRecursion P xs → AllByRecursion P (set xs i a)
  All-set xs i a p h = to P (set xs i a) (elements.All-set P xs i a p (from P xs h))

  pub All-take : (n : ℕ) (xs : List X) → AllByRecursion P xs → AllByRecursion P (take n xs)
  All-take n xs h = to P (take n xs) (elements.All-take P n xs (from P xs h))

  pub All-drop : (n : ℕ) (xs : List X) → AllByRecursion P xs → AllByRecursion P (drop n xs)
  All-drop n xs h = to P (drop n xs) (elements.All-drop P n xs (from P xs h))
