-- Registering and closing, from the table of readers to the ledger.
use Rattle.std.proofs.Common.{◌≡◌, ℕ, ◌+◌, ◌<◌, ◌≤◌, List, [], ◌∷◌, map, length, set, Some, None, Option, sym, refl, ap, ◌∙◌, arith, length-append, length-drop, length-take}
use Rattle.std.proofs.lemmas.List.{map-set, drop_all}
use Rattle.std.proofs.lemmas.Bool.{le-leb}
use Rattle.ledger.specs.Ledger as ledger
use Rattle.ledger.specs.Ledger.{Ledger, Answer, Call, outcome, refusal, taken, decided}
use Rattle.ledger.proofs.Refusals.{suffices}
use Rattle.storage.specs.declared.reader.Reader.{Reader}
use Rattle.storage.specs.declared.reader.ReaderMeta.{ReaderMeta}
use Rattle.storage.specs.Freed.{stack}
use Rattle.storage.specs.Registry.{most, fresh, lives, Live}
use Rattle.storage.specs.Meta.{HasParts, Opened}
use Rattle.storage.specs.Slots.{waiting_in, recent}
use Rattle.storage.specs.Ledgers.{reader_of, ledger_with}
use Rattle.storage.proofs.Distances.{distance-fresh}
use Rattle.storage.proofs.Lifts.{open_count-of, open_at_of}

module _ {E : Type 0} where
  -- an accepted call and a refused one
  pub accepted-is : (l : Ledger E) (c : Call E) → refusal l c ≡ None → taken l c ≡ outcome l c
  accepted-is l c e = sym (ap (λ o. decided o l (taken l c)) e)

  pub refused-is : (l : Ledger E) (c : Call E) (n : ℕ) → refusal l c ≡ Some n → (ledger.refused n, l) ≡ outcome l c
  refused-is l c n e = sym (ap (λ o. decided o l (taken l c)) e)

module _ {E : Type 0} (slots : List E) (last size generation : ℕ) where
  -- nothing waits for a reader that has just read or registered
  pub nothing-waits : last < size → waiting_in slots last size generation (fresh last generation) ≡ []
  nothing-waits below =
      let short : length (recent slots size (last + 1)) ≤ size = simp (length-append, length-drop, length-take) (omega arith) in
      rw (distance-fresh last size generation below) (drop_all size (recent slots size (last + 1)) short)

  pub set-fresh : (rs : List (Option Reader)) (n : ℕ) → last < size
      → map (reader_of slots last size generation) (set rs n (Some (fresh last generation))) ≡ set (map (reader_of slots last size generation) rs) n (ledger.waiting [])
  set-fresh rs n below =
      map-set (reader_of slots last size generation) rs n (Some (fresh last generation))
      ∙ ap (λ xs. set (map (reader_of slots last size generation) rs) n (ledger.waiting xs)) (nothing-waits below)

module _ {E : Type 0} (instance count : ℕ) (slots : List E) (last size generation : ℕ) where
  abbrev with : List (Option Reader) → List ℕ → ℕ → Ledger E
  with = ledger_with instance count slots last size generation

  abbrev of_all : List (Option Reader) → List (ledger.Reader E)
  of_all = map (reader_of slots last size generation)

  -- the ledger of a table that has these parts
  pub ledger-parts : (g : ReaderMeta) (rs : List (Option Reader)) (freed : List ℕ) (used : ℕ) → HasParts g rs freed used
      → with g.readers (stack g.free) g.used ≡ with rs freed used
  ledger-parts g rs freed used p = rw (p.readers_are, p.freed_are, p.used_is)

  pub register-some : (g h : ReaderMeta) (n : ℕ) → last < size → lives g.readers < most → Opened g h (fresh last generation) n
      → (ledger.registered n, with h.readers (stack h.free) h.used) ≡ outcome (with g.readers (stack g.free) g.used) ledger.register
  register-some g h n below room opened =
      let L : Ledger E = with g.readers (stack g.free) g.used in
      let few : ledger.open_count (of_all g.readers) < most = rw (open_count-of slots last size generation g.readers) room in
      ap (λ (l : Ledger E). (ledger.registered n, l)) (ledger-parts h _ _ _ opened.parts)
      ∙ ap (λ (rs : List (ledger.Reader E)). (ledger.registered n, ledger.with_readers L rs (ledger.freed_left L.freed) (ledger.used_then L.freed L.used))) (set-fresh slots last size generation g.readers n below)
      ∙ ap (λ (m : ℕ). (ledger.registered m, ledger.with_readers L (set (of_all g.readers) m (ledger.waiting [])) (ledger.freed_left L.freed) (ledger.used_then L.freed L.used))) opened.number
      ∙ accepted-is L ledger.register (suffices L ledger.register few)

  pub register-none : (g : ReaderMeta) → lives g.readers ≡ most
      → (ledger.refused 4, with g.readers (stack g.free) g.used) ≡ outcome (with g.readers (stack g.free) g.used) ledger.register
  register-none g full =
      let all : most ≤ ledger.open_count (of_all g.readers) = rw (open_count-of slots last size generation g.readers) (omega arith) in
      refused-is (with g.readers (stack g.free) g.used) ledger.register 4 (rw (le-leb most (ledger.open_count (of_all g.readers)) all))

  pub close_open : (rs : List (Option Reader)) (freed : List ℕ) (used n : ℕ) → Live rs n
      → (ledger.closed, with (set rs n None) (n ∷ freed) used) ≡ outcome (with rs freed used) (ledger.close instance n)
  close_open rs freed used n lv =
      let live : ledger.Open (with rs freed used) n = open_at_of slots last size generation rs n ∙ lv in
      ap (λ (xs : List (ledger.Reader E)). (ledger.closed, ledger.with_readers (with rs freed used) xs (n ∷ freed) used)) (map-set (reader_of slots last size generation) rs n None)
      ∙ accepted-is (with rs freed used) (ledger.close instance n) (suffices (with rs freed used) (ledger.close instance n) (refl, live))
