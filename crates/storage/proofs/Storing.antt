-- Storing joins the events to the end of what waits.
use Rattle.std.proofs.Common.{◌≡◌, ℕ, suc, ◌+◌, ◌-◌, ◌%◌, ◌<◌, ◌≤◌, List, [], ◌∷◌, ◌++◌, length, take, drop, set, sym, refl, ap, ◌∙◌, ⊎_elim, append_assoc, append-nil, mod-lt, mod-eq_of_lt, arith, length-drop, length-take, drop-drop, drop-set-lt}
use native.Mathlib.Nat.{mod_self, mod-add-mod}
use lib.Seq.{drop-append-le, take-set-lt}
use Rattle.std.proofs.lemmas.List.{length-set, take_more_set, drop_all}
use Rattle.std.proofs.lemmas.Bool.{cases_lt}
use Rattle.storage.specs.Slots.{stored, last_after, recent}
use Rattle.storage.proofs.Waiting.{length-recent}

-- at the end of the ring the place after the last is 0
pub next-wraps : (size last : ℕ) → last + 1 ≡ size → (last + 1) % size ≡ 0
next-wraps size last e = rw e (mod_self size)

-- the last place after one more event
pub last_after-more : (size last n : ℕ) → last_after size ((last + 1) % size) n ≡ last_after size last (suc n)
last_after-more size last n =
    let one : last + 1 + n ≡ last + suc n = omega arith in
    mod-add-mod (last + 1) size n ∙ ap (λ m. m % size) one

-- with no event the last place stays
pub last_after-none : (size last : ℕ) → last < size → last_after size last 0 ≡ last
last_after-none size last h = let same : last + 0 ≡ last = omega arith in ap (λ m. m % size) same ∙ mod-eq_of_lt h

module _ {E : Type 0} where
  pub length-stored : (xs slots : List E) (size last : ℕ) → length (stored slots size last xs) ≡ length slots
  length-stored [] slots size last = refl
  length-stored (x ∷ xs) slots size last =
      length-stored xs (set slots ((last + 1) % size) x) size ((last + 1) % size) ∙ length-set slots ((last + 1) % size) x

  -- one event more, at a place below the size
  recent-put : (slots : List E) (size p : ℕ) (x : E) → p < size → size ≤ length slots
      → recent (set slots p x) size (p + 1) ≡ drop 1 (recent slots size p) ++ x ∷ []
  recent-put slots size p x h k =
      let room : p < length slots = omega arith in
      let one : 1 ≤ length (drop p (take size slots)) = simp (length-drop, length-take) (omega arith) in
      let less : p < p + 1 = omega arith in
      rw (take-set-lt size slots p x h, drop-set-lt (p + 1) (take size slots) p x less, take_more_set slots p x room, drop-append-le 1 (drop p (take size slots)) (take p slots) one, drop-drop 1 p (take size slots), append_assoc)

  -- one event more, at place 0
  recent-wrap : (slots : List E) (size : ℕ) (x : E) → 0 < size → size ≤ length slots
      → recent (set slots 0 x) size 1 ≡ drop 1 (recent slots size size) ++ x ∷ []
  recent-wrap [] size x h k = absurd (omega arith)
  recent-wrap (y ∷ ys) size x h k =
      let all : drop size (take size (y ∷ ys)) ≡ [] = drop_all size (take size (y ∷ ys)) (simp length-take (omega arith)) in
      rw (all, take-set-lt size (y ∷ ys) 0 x h, drop-set-lt 1 (take size (y ∷ ys)) 0 x (omega arith))

  -- one event more, at the place after the last
  pub recent-stored_one : (slots : List E) (size last : ℕ) (x : E) → last < size → size ≤ length slots
      → recent (set slots ((last + 1) % size) x) size ((last + 1) % size + 1) ≡ drop 1 (recent slots size (last + 1)) ++ x ∷ []
  recent-stored_one slots size last x h k =
      ⊎_elim
      (λ (inner : last + 1 < size). rw (mod-eq_of_lt inner) (recent-put slots size (last + 1) x inner k))
      (λ over. let whole : last + 1 ≡ size = omega arith in rw (next-wraps size last whole, whole) (recent-wrap slots size x (omega arith) k))
      (cases_lt (last + 1) size)

  -- a reader whose distance falls by the number of events has them joined to what waits
  pub waiting-stored : (xs slots : List E) (size last d : ℕ) → last < size → size ≤ length slots → length xs ≤ d → d ≤ size
      → drop (d - length xs) (recent (stored slots size last xs) size (last_after size last (length xs) + 1)) ≡ drop d (recent slots size (last + 1)) ++ xs
  waiting-stored [] slots size last d h k l m =
      let stays = last_after-none size last h in
      let same : d - 0 ≡ d = omega arith in
      rw (stays, same) (sym (append-nil (drop d (recent slots size (last + 1)))))
  waiting-stored (x ∷ xs) slots size last d h k l m =
      let next : ℕ = (last + 1) % size in
      let wide : size ≤ length (set slots next x) = simp length-set (omega arith) in
      let rest = waiting-stored xs (set slots next x) size next (d - 1) (mod-lt (last + 1) (omega arith)) wide (omega arith) (omega arith) in
      let place = last_after-more size last (length xs) in
      let count : d - 1 - length xs ≡ d - suc (length xs) = omega arith in
      let one = recent-stored_one slots size last x h k in
      let long = length-recent slots size k (last + 1) (omega arith) in
      let far : d - 1 ≤ length (drop 1 (recent slots size (last + 1))) = simp (length-drop, long) (omega arith) in
      let front = drop-append-le (d - 1) (drop 1 (recent slots size (last + 1))) (x ∷ []) far in
      let both = drop-drop (d - 1) 1 (recent slots size (last + 1)) in
      let whole : 1 + (d - 1) ≡ d = omega arith in
      let join = append_assoc (drop d (recent slots size (last + 1))) (x ∷ []) xs in
      cc
