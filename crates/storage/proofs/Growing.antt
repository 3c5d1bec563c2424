-- Growth keeps what waits: each distance rises by as much as the size.
use Rattle.std.proofs.Common.{◌≡◌, ℕ, ◌+◌, ◌-◌, ◌%◌, ◌<◌, ◌≤◌, List, ◌++◌, length, take, drop, ⊎_elim, append_assoc, mod-eq_of_lt, arith, length-drop, length-take}
use Rattle.std.proofs.lemmas.List.{drop-append-le, drop-drop, drop_all, drop_at, take-append-le, take-take, length-take-le}
use Rattle.std.proofs.lemmas.List.Edits.{take-paste, length-paste}
use Rattle.std.proofs.lemmas.Slice.{between_is}
use Rattle.std.proofs.lemmas.Bool.{cases_lt}
use Rattle.storage.specs.Slots.{grown, recent}
use Rattle.storage.proofs.Storing.{next-wraps}

module _ {E : Type 0} (slots : List E) (p size g : ℕ) (below : p ≤ size) (room : size + g ≤ length slots) where
  pub length-grown : length (grown slots p size g) ≡ length slots
  length-grown =
      length-paste slots (p + g) (drop p slots) (size - p) (omega arith) (simp length-drop (omega arith))

  -- no slot below the copies changes
  pub grown-low : (n : ℕ) → n ≤ p + g → take n (grown slots p size g) ≡ take n slots
  grown-low n h =
      let long : n ≤ length (take (p + g) slots) = simp length-take (omega arith) in
      let near = take-append-le n (take (p + g) slots) (take (size - p) (drop p slots) ++ drop (p + g + (size - p)) slots) long in
      let group = append_assoc (take (p + g) slots) (take (size - p) (drop p slots)) (drop (p + g + (size - p)) slots) in
      let inner = take-take n (p + g) slots h in
      cc

  -- the copies
  pub grown-high : drop (p + g) (take (size + g) (grown slots p size g)) ≡ drop p (take size slots)
  grown-high =
      let end : p + g + (size - p) ≡ size + g = omega arith in
      let upto = take-paste slots (p + g) (drop p slots) (size - p) (omega arith) (simp length-drop (omega arith)) in
      let low : length (take (p + g) slots) ≡ p + g = length-take-le (p + g) slots (omega arith) in
      let copies = drop_at (take (p + g) slots) (take (size - p) (drop p slots)) (p + g) low in
      let run = between_is slots p size in
      cc

  -- growth from the place after the last: what waits at any distance waits at a distance g greater
  pub waiting-grown_inner : (d : ℕ) → drop (d + g) (recent (grown slots p size g) (size + g) p) ≡ drop d (recent slots size p)
  waiting-grown_inner d =
      let new : List E = grown slots p size g in
      let long = length-grown in
      let far : g ≤ length (drop p (take (size + g) new)) = simp (length-drop, length-take) (omega arith) in
      let rest = drop-append-le g (drop p (take (size + g) new)) (take p new) far in
      let copies = drop-drop g p (take (size + g) new) in
      let high = grown-high in
      let low = grown-low p (omega arith) in
      let both = drop-drop d g (recent new (size + g) p) in
      let order : d + g ≡ g + d = omega arith in
      cc

-- growth from place 0, where the place after the last is the size: the copies are not read
pub waiting-grown_whole : {E : Type 0} (slots : List E) (size g d : ℕ) → size + g ≤ length slots → size ≤ g
    → drop (d + g) (recent (grown slots 0 size g) (size + g) size) ≡ drop d (recent slots size size)
waiting-grown_whole slots size g d room wide =
    let new = grown slots 0 size g in
    let long = length-grown slots 0 size g (omega arith) room in
    let upper : length (drop size (take (size + g) new)) ≡ g = simp (length-drop, length-take) (omega arith) in
    let past = drop_at (drop size (take (size + g) new)) (take size new) g upper in
    let low = grown-low slots 0 size g (omega arith) room size (omega arith) in
    let none = drop_all size (take size slots) (simp length-take (omega arith)) in
    let both = drop-drop d g (recent new (size + g) size) in
    let order : d + g ≡ g + d = omega arith in
    cc

-- growth from the place after the last modulo size, as the ring does it
pub waiting-grown : {E : Type 0} (slots : List E) (last size g d : ℕ) → last < size → size + g ≤ length slots → size ≤ g
    → drop (d + g) (recent (grown slots ((last + 1) % size) size g) (size + g) (last + 1)) ≡ drop d (recent slots size (last + 1))
waiting-grown slots last size g d h room wide =
    ⊎_elim
    (λ (inner : last + 1 < size). rw (mod-eq_of_lt inner) (waiting-grown_inner slots (last + 1) size g (omega arith) room d))
    (λ over. let whole : last + 1 ≡ size = omega arith in rw (next-wraps size last whole, whole) (waiting-grown_whole slots size g d room wide))
    (cases_lt (last + 1) size)
