-- What a change of one reader, and of all, does to a list of readers. Assumes nothing.
use Rattle.std.proofs.Common.{◌≡◌, ℕ, zero, suc, ◌+◌, ◌<◌, ◌≤◌, max, true, false, cond, List, [], ◌∷◌, ◌++◌, map, length, get_or, set, replicate, refl, ap, inl, inr, append_assoc, append-nil, arith, length-append}
use Rattle.std.proofs.lemmas.Bool.{cases_Bool}
use Rattle.ledger.specs.Ledger.{Reader, shut, waiting, is_open, unread, open_count, any_open, longest, joined_by}
use Rattle.ledger.specs.Laws.{WouldWrite}

-- the default goes along
pub get_or-map_at : {A B : Type 0} (f : A → B) (d : A) (xs : List A) (n : ℕ) → get_or (map f xs) n (f d) ≡ f (get_or xs n d)
get_or-map_at f d [] n = refl
get_or-map_at f d (x ∷ xs) zero = refl
get_or-map_at f d (x ∷ xs) (suc n) = get_or-map_at f d xs n

pub get_or-replicate_any : {A : Type 0} (k n : ℕ) (d : A) → get_or (replicate k d) n d ≡ d
get_or-replicate_any zero n d = refl
get_or-replicate_any (suc k) zero d = refl
get_or-replicate_any (suc k) (suc n) d = get_or-replicate_any k n d

module _ {E : Type 0} where
  abbrev pub bit : Reader E → ℕ
  bit r = cond (is_open r) 1 0

  joined_twice : (a b : List E) (r : Reader E) → joined_by b (joined_by a r) ≡ joined_by (a ++ b) r
  joined_twice a b shut = refl
  joined_twice a b (waiting xs) = ap waiting (append_assoc xs a b)

  joined_none : (r : Reader E) → joined_by [] r ≡ r
  joined_none shut = refl
  joined_none (waiting xs) = ap waiting (append-nil xs)

  pub is-open_joined : (a : List E) (r : Reader E) → is_open (joined_by a r) ≡ is_open r
  is-open_joined a shut = refl
  is-open_joined a (waiting xs) = refl

  pub map-joined_twice : (a b : List E) (rs : List (Reader E)) → map (joined_by b) (map (joined_by a) rs) ≡ map (joined_by (a ++ b)) rs
  map-joined_twice a b [] = refl
  map-joined_twice a b (r ∷ rs) = rw (joined_twice a b r, map-joined_twice a b rs)

  pub map-joined_none : (rs : List (Reader E)) → map (joined_by []) rs ≡ rs
  map-joined_none [] = refl
  map-joined_none (r ∷ rs) = rw (joined_none r, map-joined_none rs)

  pub open_count-joined : (a : List E) (rs : List (Reader E)) → open_count (map (joined_by a) rs) ≡ open_count rs
  open_count-joined a [] = refl
  open_count-joined a (r ∷ rs) = rw (is-open_joined a r, open_count-joined a rs)

  pub any_open_joined : (a : List E) (rs : List (Reader E)) → any_open (map (joined_by a) rs) ≡ any_open rs
  any_open_joined a [] = refl
  any_open_joined a (r ∷ rs) = rw (is-open_joined a r, any_open_joined a rs)

  -- while none is open
  pub map-joined_shut : (a : List E) (rs : List (Reader E)) → any_open rs ≡ false → map (joined_by a) rs ≡ rs
  map-joined_shut a [] h = refl
  map-joined_shut a (shut ∷ rs) h = ap (λ qs. shut ∷ qs) (map-joined_shut a rs h)
  map-joined_shut a (waiting xs ∷ rs) h = cc

  pub longest-shut : (rs : List (Reader E)) → any_open rs ≡ false → longest rs ≡ 0
  longest-shut [] h = refl
  longest-shut (shut ∷ rs) h = omega (arith, longest-shut rs h)
  longest-shut (waiting xs ∷ rs) h = cc

  -- while one is open
  pub longest-joined : (a : List E) (rs : List (Reader E)) → any_open rs ≡ true → longest (map (joined_by a) rs) ≡ longest rs + length a
  longest-joined a [] h = cc
  longest-joined a (shut ∷ rs) h = omega (arith, longest-joined a rs h)
  longest-joined a (waiting xs ∷ rs) h =
      elim (cases_Bool (any_open rs)) [
        | inl some ↦ omega (arith, longest-joined a rs some, length-append xs a)
        | inr none ↦ rw (map-joined_shut a rs none) (omega (arith, longest-shut rs none, length-append xs a))
      ]

  pub open_within : (rs : List (Reader E)) (n : ℕ) → is_open (get_or rs n shut) ≡ true → n < length rs
  open_within [] n h = absurd (grind arith)
  open_within (r ∷ rs) zero h = omega arith
  open_within (r ∷ rs) (suc n) h = omega (arith, open_within rs n h)

  pub any_open_from : (rs : List (Reader E)) (n : ℕ) → is_open (get_or rs n shut) ≡ true → any_open rs ≡ true
  any_open_from [] n h = h
  any_open_from (r ∷ rs) zero h = rw h
  any_open_from (shut ∷ rs) (suc n) h = any_open_from rs n h
  any_open_from (waiting xs ∷ rs) (suc n) h = refl

  -- where some reader is open, one is found
  open_found : (rs : List (Reader E)) → any_open rs ≡ true → (n : ℕ) × (is_open (get_or rs n shut) ≡ true)
  open_found [] h = absurd (grind arith)
  open_found (shut ∷ rs) h = let r = open_found rs h in (suc r.0, r.1)
  open_found (waiting xs ∷ rs) h = (zero, refl)

  pub would_write-when : WouldWrite E
  would_write-when l = (open_found l.readers, λ o. any_open_from l.readers o.0 o.1)

  -- one reader changed
  pub open_count-set : (rs : List (Reader E)) (n : ℕ) (r : Reader E) → n < length rs → open_count (set rs n r) + bit (get_or rs n shut) ≡ open_count rs + bit r
  open_count-set [] n r h = absurd (omega arith)
  open_count-set (q ∷ rs) zero r h = omega arith
  open_count-set (q ∷ rs) (suc n) r h = omega (arith, open_count-set rs n r (omega arith))

  pub longest-set : (rs : List (Reader E)) (n : ℕ) (r : Reader E) → longest (set rs n r) ≤ max (longest rs) (length (unread r))
  longest-set [] n r = omega arith
  longest-set (q ∷ rs) zero r = omega arith
  longest-set (q ∷ rs) (suc n) r = omega (arith, longest-set rs n r)
