-- Which numbers are given out. Assumes nothing.
use Rattle.std.proofs.Common.{◌≡◌, ℕ, ◌<◌, ap, arith}
use Rattle.ledger.specs.Ledger.{Ledger, shut, most_readers, reader_at, after_close, next_number, decided, taken, outcome}
use Rattle.ledger.specs.Ledger.Call.{register, close}
use Rattle.ledger.specs.Ledger.Answer.{registered, closed}
use Rattle.ledger.specs.Sound.{Sound}
use Rattle.ledger.specs.Histories.{at_end}
use Rattle.ledger.specs.Laws.{NumbersGiven}
use Rattle.ledger.proofs.Refusals.{by_outcome, meets, suffices}
use Rattle.ledger.proofs.Soundness.{next-is, keeps_sound}
use Rattle.ledger.proofs.Keeping.{new_reader}
use Rattle.ledger.proofs.Totals.{reached-sound}

module _ {E : Type 0} where
  -- a close leaves room for a registration, which takes its number
  close-then_register : (l : Ledger E) (instance n : ℕ) → Sound l → (outcome l (close instance n)).0 ≡ closed → (outcome (outcome l (close instance n)).1 register).0 ≡ registered n
  close-then_register l instance n s =
      by_outcome (λ a k. Sound k → a ≡ closed → (outcome k register).0 ≡ registered n) l (close instance n) (λ k _ _ h. absurd (grind arith))
      (λ _ t _. ap (λ o. (decided o (after_close l n) (taken (after_close l n) register)).0) (suffices (after_close l n) register (omega (arith, t.counted, t.within)))) (keeps_sound l (close instance n) s)

  given_was_shut : (l : Ledger E) (n : ℕ) → Sound l → (outcome l register).0 ≡ registered n → (n < most_readers) × (reader_at l n ≡ shut)
  given_was_shut l n s =
      by_outcome (λ a _. a ≡ registered n → (n < most_readers) × (reader_at l n ≡ shut)) l register (λ k _ h. absurd (grind arith))
      (λ h e. let next : next_number l ≡ n = cc in rw (← next) (next-is l s (meets l register h)))

  pub numbers_given : NumbersGiven E
  numbers_given =
      record {
        latest_first = λ h instance n. close-then_register (at_end h) instance n (reached-sound h);
        from_shut = λ h n. given_was_shut (at_end h) n (reached-sound h);
        to_open = λ h n. new_reader (at_end h) n (reached-sound h);
      }
