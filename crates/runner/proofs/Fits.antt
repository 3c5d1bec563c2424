-- Every number of a session fits 64 bits, where those of its records do.
use Rattle.std.proofs.Common.{◌≡◌, ℕ, zero, suc, ◌^◌, ◌<◌, Bool, cond, not, ◌&&◌, ltb, List, [], ◌∷◌, map, length, get_or, replicate, Some, None, Option, refl, ◌∙◌, subst, arith}
use Rattle.std.specs.List.{AllByRecursion}
use Rattle.script.proofs.Each.{All-append, All-set}
use Rattle.std.proofs.lemmas.Bool.{cond_both}
use Rattle.ledger.specs.Ledger as ledger
use Rattle.ledger.specs.Ledger.{Ledger, Reader, Call, shut, waiting, unread, joined_by, opening_refusal, fresh, outcome, taken, refusal, after_write, with_events, changes, just_opened, other_slots, other_channel, not_open}
use Rattle.ledger.specs.Sound.{Sound}
use Rattle.ledger.specs.Laws.{Acceptable}
use Rattle.ledger.proofs.Refusals.{by_outcome, meets, opening-figures}
use Rattle.ledger.proofs.Soundness.{opened-sound, next-is, keeps_sound}
use Rattle.script.specs.declared.mark.Mark.{Mark}
use Rattle.script.specs.declared.mark.Mark.TheVariants as mark
use Rattle.script.specs.Records.{Record, opening, register, would_write, write, read, close}
use Rattle.script.specs.Telling.{Fitting}
use Rattle.runner.specs.Sessions.{slot_count, told, answered, answers, begun, first, session}
use Rattle.runner.specs.Laws.{answers_of}

abbrev pub Small : ℕ → Type 0
Small n = n < 2 ^ 64

abbrev pub Fit : Record → Type 0
Fit (opening size) = Small size
Fit register = Unit {0}
Fit would_write = Unit {0}
Fit (write events) = Small (length events) × AllByRecursion Small events
Fit (read reader) = Small reader
Fit (close reader) = Small reader

-- a table with small numbers gives a small one, if any
pub record Little (o : Option ℕ) : Type 0 where
  pub number : (n : ℕ) → o ≡ Some n → Small n

none : Little None
none = record { number = λ n e. let z : ◌≡◌ {A = ℕ} 0 1 = cc in absurd (omega arith) }

row : (b : Bool) (n : ℕ) (rest : Option ℕ) → Small n → Little rest → Little (cond b (Some n) rest)
row b n rest here there =
    cond_both b (Some n) rest Little
    (λ _. record { number = λ k e. let same : n ≡ k = cc in subst Small same here }) (λ _. there)

small_opening : (next size slots : ℕ) → Little (opening_refusal next size slots)
small_opening next size slots =
    row (ltb size 2) 1 _ (omega arith)
    (row (ltb 1048576 slots) 2 _ (omega arith)
    (row (ltb slots size) 3 _ (omega arith) (row (ltb 4294967295 next) 12 None (omega arith) none)))

small_refusal : (l : Ledger ℕ) (c : Call ℕ) → Little (refusal l c)
small_refusal l ledger.register = row _ 4 None (omega arith) none
small_refusal l (ledger.write slots new) =
    row (other_slots l slots) 5 _ (omega arith)
    (row (not (ledger.would_write l) && ltb l.size (length new)) 8 _ (omega arith)
    (row (ledger.would_write l && ltb l.slots (after_write l new).size) 9 None (omega arith) none))
small_refusal l (ledger.read slots instance reader) =
    row (other_slots l slots) 5 _ (omega arith)
    (row (other_channel l instance) 6 _ (omega arith) (row (not_open l reader) 7 None (omega arith) none))
small_refusal l (ledger.close instance reader) =
    row (other_channel l instance) 6 _ (omega arith) (row (not_open l reader) 7 None (omega arith) none)

-- a reader whose unread events are small
abbrev Holds : Reader ℕ → Type 0
Holds r = AllByRecursion Small (unread r)

-- a ledger that a script's calls can reach
pub record Near (l : Ledger ℕ) : Type 0 where
  pub sound : Sound l
  pub slots : l.slots ≡ slot_count
  pub holds : AllByRecursion Holds l.readers

-- the events of a call are small
abbrev Sent : Call ℕ → Type 0
Sent ledger.register = Unit {0}
Sent (ledger.write slots new) = Small (length new) × AllByRecursion Small new
Sent (ledger.read slots instance n) = Unit {0}
Sent (ledger.close instance n) = Unit {0}

joined_holds : (new : List ℕ) (rs : List (Reader ℕ)) → AllByRecursion Small new → AllByRecursion Holds rs → AllByRecursion Holds (map (joined_by new) rs)
joined_holds new [] small h = tt
joined_holds new (shut ∷ rs) small h = (tt, joined_holds new rs small h.1)
joined_holds new (waiting xs ∷ rs) small h = (All-append Small xs new h.0 small, joined_holds new rs small h.1)

reader_holds : (rs : List (Reader ℕ)) (n : ℕ) → AllByRecursion Holds rs → Holds (get_or rs n shut)
reader_holds [] zero h = tt
reader_holds [] (suc n) h = tt
reader_holds (r ∷ rs) zero h = h.0
reader_holds (r ∷ rs) (suc n) h = reader_holds rs n h.1

written-slots : (l : Ledger ℕ) (new : List ℕ) → (after_write l new).slots ≡ l.slots
written-slots l new = cond_both (changes l new) (with_events l new) l (λ k. k.slots ≡ l.slots) (λ _. refl) (λ _. refl)

written-holds : (l : Ledger ℕ) (new : List ℕ) → AllByRecursion Small new → AllByRecursion Holds l.readers → AllByRecursion Holds (after_write l new).readers
written-holds l new small h =
    cond_both (changes l new) (with_events l new) l (λ k. AllByRecursion Holds k.readers) (λ _. joined_holds new l.readers small h) (λ _. h)

-- the count of slots stays, and small events come to wait only
taken-slots : (l : Ledger ℕ) (c : Call ℕ) → (taken l c).1.slots ≡ l.slots
taken-slots l ledger.register = refl
taken-slots l (ledger.write slots new) = written-slots l new
taken-slots l (ledger.read slots instance n) = refl
taken-slots l (ledger.close instance n) = refl

taken-holds : (l : Ledger ℕ) (c : Call ℕ) → Sent c → AllByRecursion Holds l.readers → AllByRecursion Holds (taken l c).1.readers
taken-holds l ledger.register sent h = All-set Holds l.readers (ledger.next_number l) (waiting []) tt h
taken-holds l (ledger.write slots new) sent h = written-holds l new sent.1 h
taken-holds l (ledger.read slots instance n) sent h = All-set Holds l.readers n (waiting []) tt h
taken-holds l (ledger.close instance n) sent h = All-set Holds l.readers n shut tt h

pub near_then : (l : Ledger ℕ) (c : Call ℕ) → Sent c → Near l → Near (outcome l c).1
near_then l c sent near =
    record {
      sound = keeps_sound l c near.sound;
      slots = by_outcome (λ _ k. k.slots ≡ slot_count) l c (λ _ _. near.slots) (λ _. taken-slots l c ∙ near.slots);
      holds = by_outcome (λ _ k. AllByRecursion Holds k.readers) l c (λ _ _. near.holds) (λ _. taken-holds l c sent near.holds);
    }

-- what an accepted call shows is small
taken-fits : (l : Ledger ℕ) (c : Call ℕ) (m : Mark) (reader : ℕ) → Sent c → Small reader → Near l → Acceptable l c → Small (taken l c).1.size → Fitting (told m reader (taken l c).0)
taken-fits l ledger.register m reader sent small near met size = let low = (next-is l near.sound met).0 in omega arith
taken-fits l (ledger.write slots new) m reader sent small near met size = (sent.0, size)
taken-fits l (ledger.read slots instance n) m reader sent small near met size = (small, reader_holds l.readers n near.holds)
taken-fits l (ledger.close instance n) m reader sent small near met size = small

small_size : (l : Ledger ℕ) → Near l → Small l.size
small_size l near = omega (arith, near.sound.room, near.slots)

pub call_fits : (l : Ledger ℕ) (c : Call ℕ) (m : Mark) (reader : ℕ) → Sent c → Small reader → Near l → Fitting (told m reader (outcome l c).0)
call_fits l c m reader sent small near =
    by_outcome (λ a k. Small k.size → Fitting (told m reader a)) l c
    (λ n e size. (small_refusal l c).number n e) (λ h size. taken-fits l c m reader sent small near (meets l c h) size)
    (small_size (outcome l c).1 (near_then l c sent near))

-- a record's answer, and the ledger afterwards
pub answered-fits : (l : Ledger ℕ) (r : Record) → Fit r → Near l → Fitting (answered l r).0 × Near (answered l r).1
answered-fits l (opening size) fit near = (fit, near)
answered-fits l register fit near = (call_fits l ledger.register mark.Register 0 tt (omega arith) near, near_then l ledger.register tt near)
answered-fits l would_write fit near = (tt, near)
answered-fits l (write events) fit near =
    (call_fits l (ledger.write slot_count events) mark.Write 0 fit (omega arith) near, near_then l (ledger.write slot_count events) fit near)
answered-fits l (read reader) fit near =
    let c : Call ℕ = ledger.read slot_count l.instance reader in
    (call_fits l c mark.Read reader tt fit near, near_then l c tt near)
answered-fits l (close reader) fit near =
    let c : Call ℕ = ledger.close l.instance reader in
    (call_fits l c mark.Close reader tt fit near, near_then l c tt near)

answers-fit : (l : Ledger ℕ) (rs : List (ℕ × Record)) → AllByRecursion (λ r. Fit r.1) rs → Near l → AllByRecursion Fitting (answers_of (answers l rs))
answers-fit l [] fit near = tt
answers-fit l (r ∷ rs) fit near =
    let one = answered-fits l r.1 fit.0 near in
    (one.0, answers-fit (answered l r.1).1 rs fit.1 one.1)

shut-hold : (n : ℕ) → AllByRecursion Holds (replicate n shut)
shut-hold zero = tt
shut-hold (suc n) = (tt, shut-hold n)

fresh-near : (size : ℕ) → opening_refusal 0 size slot_count ≡ None → Near (fresh 0 size slot_count)
fresh-near size granted =
    let figures = (opening-figures 0 size slot_count).0 granted in
    let o = figures.0 in
    let same : just_opened {E = ℕ} o ≡ fresh 0 size slot_count = let p = figures.1 in let q = figures.2 in let r = figures.3 in cc in
    record { sound = subst Sound same (opened-sound o); slots = refl; holds = shut-hold 64 }

begun-fits : (refusal : Option ℕ) (at size : ℕ) (rest : List (ℕ × Record)) → opening_refusal 0 size slot_count ≡ refusal → Small size → AllByRecursion (λ r. Fit r.1) rest
    → AllByRecursion Fitting (answers_of (begun refusal at size rest))
begun-fits (Some n) at size rest is small fit = ((small_opening 0 size slot_count).number n is, tt)
begun-fits None at size rest is small fit = (small, answers-fit (fresh 0 size slot_count) rest fit (fresh-near size is))

first_fits : (at : ℕ) (r : Record) (rest : List (ℕ × Record)) → Fit r → AllByRecursion (λ r. Fit r.1) rest → AllByRecursion Fitting (answers_of (first at r rest))
first_fits at (opening size) rest small fit = begun-fits (opening_refusal 0 size slot_count) at size rest refl small fit
first_fits at register rest small fit = tt
first_fits at would_write rest small fit = tt
first_fits at (write events) rest small fit = tt
first_fits at (read reader) rest small fit = tt
first_fits at (close reader) rest small fit = tt

pub session-fits : (rs : List (ℕ × Record)) → AllByRecursion (λ r. Fit r.1) rs → AllByRecursion Fitting (answers_of (session rs))
session-fits [] fit = tt
session-fits (r ∷ rs) fit = first_fits r.0 r.1 rs fit.0 fit.1
