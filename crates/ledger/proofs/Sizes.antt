-- Sizes by doubling: large enough, never smaller, and in two steps as in one. Assumes nothing.
use Rattle.std.proofs.Common.{◌≡◌, ℕ, zero, suc, ◌+◌, ◌*◌, ◌^◌, ◌<◌, ◌≤◌, sym, refl, ◌∙◌, inl, inr, mul_assoc, mul_comm, pow-suc, le-mul_of_pos_right, arith}
use Rattle.std.proofs.lemmas.Bool.{cases_lt, le-leb, lt-leb}
use Rattle.std.proofs.lemmas.Nat.{pow_pos}
use Rattle.ledger.specs.Ledger.{doubled, size_for}
use Rattle.ledger.specs.Laws.{SmallestDoubling, SizeRule, SizeLaws}

-- the ways of each definition
doubled-none : (s n : ℕ) → doubled zero s n ≡ 2 * s
unfolding doubled
doubled-none s n = refl

doubled_fits : (f s n : ℕ) → n ≤ 2 * s → doubled f s n ≡ 2 * s
unfolding doubled
doubled_fits zero s n h = refl
doubled_fits (suc f) s n h = rw (le-leb n (2 * s) h)

doubled-more : (f s n : ℕ) → 2 * s < n → doubled (suc f) s n ≡ doubled f (2 * s) n
unfolding doubled
doubled-more f s n h = rw (lt-leb n (2 * s) h)

size_fits : (s n : ℕ) → n ≤ s → size_for s n ≡ s
unfolding size_for
size_fits s n h = rw (le-leb n s h)

size-more : (s n : ℕ) → s < n → size_for s n ≡ doubled n s n
unfolding size_for
size-more s n h = rw (lt-leb n s h)

-- any two counts of doublings that suffice give one size
steady : (f g s n : ℕ) → 1 ≤ s → n ≤ f + 2 * s → n ≤ g + 2 * s → doubled f s n ≡ doubled g s n
steady zero g s n h a b = doubled-none s n ∙ sym (doubled_fits g s n (omega arith))
steady (suc f) zero s n h a b = doubled_fits (suc f) s n (omega arith) ∙ sym (doubled-none s n)
steady (suc f) (suc g) s n h a b =
    elim (cases_lt (2 * s) n) [
      | inl more ↦ doubled-more f s n more ∙ steady f g (2 * s) n (omega arith) (omega arith) (omega arith) ∙ sym (doubled-more g s n more)
      | inr fits ↦ doubled_fits (suc f) s n fits ∙ sym (doubled_fits (suc g) s n fits)
    ]

-- one doubling, and then to m
from_double : (g s m : ℕ) → 1 ≤ s → m ≤ g + 2 * s → size_for (2 * s) m ≡ doubled g s m
from_double zero s m h a = size_fits (2 * s) m (omega arith) ∙ sym (doubled-none s m)
from_double (suc g) s m h a =
    elim (cases_lt (2 * s) m) [
      | inl more ↦ size-more (2 * s) m more ∙ steady m g (2 * s) m (omega arith) (omega arith) (omega arith) ∙ sym (doubled-more g s m more)
      | inr fits ↦ size_fits (2 * s) m fits ∙ sym (doubled_fits (suc g) s m fits)
    ]

from_doubled : (f g s n m : ℕ) → 1 ≤ s → n ≤ m → n ≤ f + 2 * s → m ≤ g + 2 * s → size_for (doubled f s n) m ≡ doubled g s m
from_doubled zero g s n m h k a b = rw (doubled-none s n) (from_double g s m h b)
from_doubled (suc f) zero s n m h k a b = rw (doubled_fits (suc f) s n (omega arith)) (from_double zero s m h b)
from_doubled (suc f) (suc g) s n m h k a b =
    elim (cases_lt (2 * s) n) [
      | inl more ↦ rw (doubled-more f s n more) (from_doubled f g (2 * s) n m (omega arith) k (omega arith) (omega arith) ∙ sym (doubled-more g s m (omega arith)))
      | inr fits ↦ rw (doubled_fits (suc f) s n fits) (from_double (suc g) s m h b)
    ]

-- a size that fits n and then m is the size that fits m
size-twice : (s n m : ℕ) → 1 ≤ s → n ≤ m → size_for (size_for s n) m ≡ size_for s m
size-twice s n m h k =
    elim (cases_lt s n) [
      | inl more ↦ rw (size-more s n more, size-more s m (omega arith)) (from_doubled n m s n m h k (omega arith) (omega arith))
      | inr fits ↦ rw (size_fits s n fits)
    ]

doubled-bounds : (f s n : ℕ) → 1 ≤ s → n ≤ f + 2 * s → (n ≤ doubled f s n) × (s ≤ doubled f s n)
doubled-bounds zero s n h a = rw (doubled-none s n) (omega arith, omega arith)
doubled-bounds (suc f) s n h a =
    elim (cases_lt (2 * s) n) [
      | inl more ↦ rw (doubled-more f s n more) (let r = doubled-bounds f (2 * s) n (omega arith) (omega arith) in (r.0, omega arith))
      | inr fits ↦ rw (doubled_fits (suc f) s n fits) (fits, omega arith)
    ]

size-bounds : (s n : ℕ) → 1 ≤ s → (n ≤ size_for s n) × (s ≤ size_for s n)
size-bounds s n h =
    elim (cases_lt s n) [
      | inl more ↦ rw (size-more s n more) (doubled-bounds n s n h (omega arith))
      | inr fits ↦ rw (size_fits s n fits) (fits, omega arith)
    ]

-- the smallest that suffices
twice : (k s : ℕ) → 2 ^ suc k * s ≡ 2 ^ k * (2 * s)
twice k s = rw (pow-suc 2 k) (mul_assoc (2 ^ k) 2 s)

once_smallest : (s n : ℕ) → n ≤ 2 * s → SmallestDoubling s n (2 * s)
once_smallest s n h = record { more = 0; is = refl; enough = h; least = λ k _. rw (twice k s, mul_comm (2 ^ k) (2 * s)) (le-mul_of_pos_right (2 * s) (pow_pos k)) }

smallest : (f s n : ℕ) → 1 ≤ s → n ≤ f + 2 * s → SmallestDoubling s n (doubled f s n)
smallest zero s n h a = rw (doubled-none s n) (once_smallest s n (omega arith))
smallest (suc f) s n h a =
    elim (cases_lt (2 * s) n) [
      | inl more ↦ rw (doubled-more f s n more) (again more (smallest f (2 * s) n (omega arith) (omega arith)))
      | inr fits ↦ rw (doubled_fits (suc f) s n fits) (once_smallest s n fits)
    ]
  where
    again : 2 * s < n → SmallestDoubling (2 * s) n (doubled f (2 * s) n) → SmallestDoubling s n (doubled f (2 * s) n)
    again more r = record { more = suc r.more; is = r.is ∙ sym (twice (suc r.more) s); enough = r.enough; least = least }
      where
        least : (k : ℕ) → n ≤ 2 ^ suc k * s → doubled f (2 * s) n ≤ 2 ^ suc k * s
        least zero e = absurd (omega arith)
        least (suc k) e = rw (twice (suc k) s) (r.least k (rw (twice (suc k) s) at e))

-- one turn of a loop that doubles
pub size-doubles : (s n : ℕ) → 1 ≤ s → s < n → size_for (2 * s) n ≡ size_for s n
size-doubles s n h more = from_double n s n h (omega arith) ∙ sym (size-more s n more)

pub size_rule : SizeRule
size_rule s n h = (size_fits s n, λ more. rw (size-more s n more) (smallest n s n h (omega arith)))

pub size_laws : SizeLaws
size_laws =
    record {
      enough = λ s n h. (size-bounds s n h).0;
      never_smaller = λ s n h. (size-bounds s n h).1;
      stays = size_fits;
      in_steps = size-twice;
    }
