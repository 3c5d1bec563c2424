-- Whom growth moves, and what it leaves.
use Rattle.std.proofs.Common.{◌≡◌, ℕ, ◌+◌, ◌≤◌, true, false, refl, arith}
use Rattle.std.proofs.lemmas.Bool.{cond-true, cond-false, cond_both}
use Rattle.storage.specs.declared.reader.Reader.{Reader}
use Rattle.storage.specs.Registry.{needs_shift, raised, shifted}

module _ (last generation by : ℕ) (r : Reader) where
  pub moved : needs_shift last generation r ≡ true → shifted last generation by r ≡ raised by r
  moved n = cond-true (needs_shift last generation r) (raised by r) r n

  pub stays-below : needs_shift last generation r ≡ false → shifted last generation by r ≡ r
  stays-below n = cond-false (needs_shift last generation r) (raised by r) r n

  -- what holds of a reader, moved or not, holds of it after growth
  either : (P : Reader → Type 0) → P (raised by r) → P r → P (shifted last generation by r)
  either P up same = cond_both (needs_shift last generation r) (raised by r) r P (λ _. up) (λ _. same)

  pub shifted-generation : (shifted last generation by r).generation ≡ r.generation
  shifted-generation = either (λ x. x.generation ≡ r.generation) refl refl

  pub shifted-place : (shifted last generation by r).place ≤ r.place + by
  shifted-place = either (λ x. x.place ≤ r.place + by) (omega arith) (omega arith)
