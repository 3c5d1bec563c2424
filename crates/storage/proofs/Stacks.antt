-- The stack of freed numbers, in an array.
use Rattle.std.proofs.Common.{◌≡◌, ℕ, zero, suc, ◌+◌, ◌<◌, ◌≤◌, ◌≢◌, List, ◌∷◌, length, set, refl, arith}
use Rattle.std.proofs.lemmas.List.{get_or-set_other, get_or-set_same}
use Rattle.storage.specs.Freed.{stack_of}

pub length-stack : (free : List ℕ) (n : ℕ) → length (stack_of free n) ≡ n
length-stack free zero = refl
length-stack free (suc n) = omega (arith, length-stack free n)

stack-kept : (free : List ℕ) (i n freed : ℕ) → freed ≤ i → stack_of (set free i n) freed ≡ stack_of free freed
stack-kept free i n zero h = refl
stack-kept free i n (suc k) h =
    let ne : k ≢ i = omega arith in rw (get_or-set_other free i k n 0 ne, stack-kept free i n k (omega arith))

-- a number put on it
pub stack-pushed : (free : List ℕ) (n freed : ℕ) → freed < length free → stack_of (set free freed n) (freed + 1) ≡ n ∷ stack_of free freed
stack-pushed free n freed h =
    let e : freed + 1 ≡ suc freed = omega arith in
    rw (e, get_or-set_same free freed n 0 h, stack-kept free freed n freed (omega arith))
