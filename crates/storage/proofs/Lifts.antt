-- From the table of readers to the ledger's readers.
use Rattle.std.proofs.Common.{◌≡◌, ℕ, zero, suc, ◌≤◌, true, false, List, [], ◌∷◌, map, length, get_or, is_some, Some, None, Option, sym, refl, ap, ◌∙◌, arith}
use Rattle.ledger.specs.Ledger as ledger
use Rattle.ledger.proofs.Readers.{get_or-map_at, any_open_from}
use Rattle.storage.specs.declared.reader.Reader.{Reader}
use Rattle.storage.specs.Registry.{entry, lives, Live, Shut, Each}
use Rattle.storage.specs.Slots.{waiting_in}
use Rattle.storage.specs.Ledgers.{reader_of}
use Rattle.storage.proofs.Entries.{clash, lives-cons}

module _ {E : Type 0} (slots : List E) (last size generation : ℕ) where
  abbrev of : Option Reader → ledger.Reader E
  of = reader_of slots last size generation

  is-open_of : (o : Option Reader) → ledger.is_open (of o) ≡ is_some o
  is-open_of None = refl
  is-open_of (Some r) = refl

  -- what number k stands for
  pub reader_at_of : (rs : List (Option Reader)) (k : ℕ) → get_or (map of rs) k ledger.shut ≡ of (entry rs k)
  reader_at_of rs k = get_or-map_at of None rs k

  pub open_at_of : (rs : List (Option Reader)) (k : ℕ) → ledger.is_open (get_or (map of rs) k ledger.shut) ≡ is_some (entry rs k)
  open_at_of rs k = ap ledger.is_open (reader_at_of rs k) ∙ is-open_of (entry rs k)

  pub open_count-of : (rs : List (Option Reader)) → ledger.open_count (map of rs) ≡ lives rs
  open_count-of [] = refl
  open_count-of (o ∷ rs) = rw (is-open_of o, open_count-of rs) (sym (lives-cons o rs))

  -- nobody is open
  pub none_open_of : (rs : List (Option Reader)) → ((k : ℕ) → Shut rs k) → ledger.any_open (map of rs) ≡ false
  none_open_of [] h = refl
  none_open_of (o ∷ rs) h = rw (is-open_of o, h zero, none_open_of rs (λ k. h (suc k)))

  -- somebody is open
  pub some_open_of : (rs : List (Option Reader)) (k : ℕ) → Live rs k → ledger.any_open (map of rs) ≡ true
  some_open_of rs k lv = any_open_from (map of rs) k (open_at_of rs k ∙ lv)

  -- no unread list is longer than each of these
  pub longest-below : (rs : List (Option Reader)) (most : ℕ) → Each (λ r. length (waiting_in slots last size generation r) ≤ most) rs → ledger.longest (map of rs) ≤ most
  longest-below [] most h = omega arith
  longest-below (None ∷ rs) most h = omega (arith, longest-below rs most (λ k. h (suc k)))
  longest-below (Some r ∷ rs) most h = omega (arith, longest-below rs most (λ k. h (suc k)), h zero r refl)

  -- and each is at most the longest
  pub longest-above : (rs : List (Option Reader)) → Each (λ r. length (waiting_in slots last size generation r) ≤ ledger.longest (map of rs)) rs
  longest-above [] k r is = clash None r refl is
  longest-above (o ∷ rs) zero r is = let e : o ≡ Some r = is in rw e (omega arith)
  longest-above (o ∷ rs) (suc k) r is = omega (arith, longest-above rs k r is)

-- f of every entry is g of it, where it is so of every open reader and of an entry that is not open
pub map-entries : {C : Type 0} (f g : Option Reader → C) (rs : List (Option Reader)) → f None ≡ g None → Each (λ r. f (Some r) ≡ g (Some r)) rs → map f rs ≡ map g rs
map-entries f g [] n h = refl
map-entries f g (None ∷ rs) n h = let t = map-entries f g rs n (λ k. h (suc k)) in cc
map-entries f g (Some r ∷ rs) n h = let t = map-entries f g rs n (λ k. h (suc k)) in let e = h zero r refl in cc
