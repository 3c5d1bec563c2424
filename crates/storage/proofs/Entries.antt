-- The entries of the table: who is open and who is not.
use Rattle.std.proofs.Common.{◌≡◌, ℕ, zero, suc, ◌+◌, ◌<◌, ◌≤◌, ◌≢◌, ◌⊎◌, Bool, false, cond, List, [], ◌∷◌, map, length, set, replicate, is_some, Some, None, Option, sym, refl, ap, ◌∙◌, subst, inl, inr, ⊎_elim, arith}
use Rattle.std.specs.Option.{IsSome, IsNone, option_map}
use Rattle.std.proofs.lemmas.Bool.{both_ways, cases_eq}
use Rattle.std.proofs.lemmas.List.{get_or-set_other}
use Rattle.std.proofs.lemmas.List.Sums.{sum_by-set, sum_by-cons}
use Rattle.storage.specs.declared.reader.Reader.{Reader}
use Rattle.storage.specs.Registry.{entry, lives, Live, Shut, Each}

-- an entry is not both
pub clash : {A : Type 0} (o : Option Reader) (r : Reader) → IsNone o → o ≡ Some r → A
clash o r none is = absurd (both_ways (is_some o) none (ap is_some is))

pub not_open : (o : Option Reader) → (IsSome o → ⊥) → IsNone o
not_open None h = refl
not_open (Some r) h = absurd (h refl)

-- the reader of a number that is open
pub reader_of_some : (o : Option Reader) → IsSome o → (r : Reader) × (o ≡ Some r)
reader_of_some None h = absurd (both_ways false refl h)
reader_of_some (Some r) h = (r, refl)

-- an open number lies within the table
pub live-within : (rs : List (Option Reader)) (k : ℕ) → Live rs k → k < length rs
live-within [] k lv = absurd (both_ways false refl lv)
live-within (o ∷ rs) zero lv = omega arith
live-within (o ∷ rs) (suc k) lv = omega (arith, live-within rs k lv)

-- an open number and a closed one differ
pub apart_from : (rs : List (Option Reader)) (i k : ℕ) → Live rs i → Shut rs k → k ≢ i
apart_from rs i k lv dead e = both_ways _ dead (subst (λ x. Live rs x) (sym e) lv)

module _ (rs : List (Option Reader)) (i : ℕ) (e : Option Reader) where
  -- the count after one entry is changed, where it is known who was open and who is
  pub lives-from : (was is : Bool) → i < length rs → is_some (entry rs i) ≡ was → is_some e ≡ is → lives (set rs i e) + cond was 1 0 ≡ lives rs + cond is 1 0
  lives-from was is lt p q = rw (← p, ← q) (sum_by-set (λ o. cond (is_some o) 1 0) rs i e None lt)

  -- after one entry is changed, who is open is that one or was open
  pub live-set : (k : ℕ) → Live (set rs i e) k → (k ≡ i) ⊎ Live rs k
  live-set k lv = ⊎_elim (λ same. inl same) (λ (ne : k ≡ i → ⊥). inr (rw get_or-set_other at lv)) (cases_eq k i)

  -- and who was closed still is, but for that one
  pub closed-set : (k : ℕ) → k ≢ i → Shut rs k → Shut (set rs i e) k
  closed-set k ne dead = ap is_some (get_or-set_other rs i k e None ne) ∙ dead

  -- a bound of every open number
  pub below_set : (n m : ℕ) → i < m → n ≤ m → ((k : ℕ) → Live rs k → k < n) → (k : ℕ) → Live (set rs i e) k → k < m
  below_set n m lt le all k lv = ⊎_elim (λ (same : k ≡ i). omega arith) (λ (l : Live rs k). omega (arith, all k l)) (live-set k lv)

pub lives-cons : (o : Option Reader) (rs : List (Option Reader)) → lives (o ∷ rs) ≡ cond (is_some o) 1 0 + lives rs
lives-cons o rs = sum_by-cons (λ x. cond (is_some x) 1 0) o rs

-- an entry is changed to one that is closed, or has P
pub each_set : (P : Reader → Type 0) (rs : List (Option Reader)) (i : ℕ) (e : Option Reader) → ((r : Reader) → e ≡ Some r → P r) → Each P rs → Each P (set rs i e)
each_set P [] i e p s k r is = s k r is
each_set P (o ∷ rs) zero e p s zero r is = p r is
each_set P (o ∷ rs) zero e p s (suc k) r is = s (suc k) r is
each_set P (o ∷ rs) (suc i) e p s zero r is = s zero r is
each_set P (o ∷ rs) (suc i) e p s (suc k) r is = each_set P rs i e p (λ j. s (suc j)) k r is

-- a table of nobody

pub shut-blank : (n k : ℕ) → Shut (replicate n None) k
shut-blank zero k = refl
shut-blank (suc n) zero = refl
shut-blank (suc n) (suc k) = shut-blank n k

pub lives-blank : (n : ℕ) → lives (replicate n None) ≡ 0
lives-blank zero = refl
lives-blank (suc n) = omega (arith, lives-blank n)

-- f of every reader

module _ (f : Reader → Reader) where
  -- who is open stays open
  pub live-map : (rs : List (Option Reader)) (k : ℕ) → is_some (entry (map (option_map f) rs) k) ≡ is_some (entry rs k)
  live-map [] k = refl
  live-map (None ∷ rs) zero = refl
  live-map (Some r ∷ rs) zero = refl
  live-map (o ∷ rs) (suc k) = live-map rs k

  pub lives-map : (rs : List (Option Reader)) → lives (map (option_map f) rs) ≡ lives rs
  lives-map [] = refl
  lives-map (o ∷ rs) = omega (arith, lives-cons o rs, lives-cons (option_map f o) (map (option_map f) rs), lives-map rs, ap (λ b. cond {A = ℕ} b 1 0) (live-map (o ∷ rs) zero))

  -- Q of every reader of the new table, from what is known of the old
  pub each_map : (Q : Reader → Type 0) (rs : List (Option Reader)) → Each (λ r. Q (f r)) rs → Each Q (map (option_map f) rs)
  each_map Q [] s k r is = clash None r refl is
  each_map Q (None ∷ rs) s zero r is = clash None r refl is
  each_map Q (Some o ∷ rs) s zero r is = let same : f o ≡ r = cc in subst Q same (s zero o refl)
  each_map Q (o ∷ rs) s (suc k) r is = each_map Q rs (λ j. s (suc j)) k r is
