-- What the table keeps through each of its calls.
use Rattle.std.proofs.Common.{◌≡◌, ℕ, ◌+◌, ◌<◌, ◌≤◌, true, false, List, [], ◌∷◌, map, length, set, replicate, Some, None, Option, sym, refl, ◌∙◌, arith}
use Rattle.std.specs.List.{AllByRecursion}
use Rattle.std.specs.Option.{option_map}
use Rattle.std.specs.Prelude.{nat_eq}
use Rattle.std.proofs.lemmas.List.{length-set, length-map, length-replicate, get_or-set_same}
use Rattle.std.proofs.lemmas.Bool.{both_ways, eq-eqb, ne_eqb}
use Rattle.std.proofs.lemmas.Map.Keys.{IsDistinct-from_apart, IsDistinct-head, IsDistinct-tail, IsDistinct-cons}
use Rattle.ledger.specs.Ledger.{number_taken, freed_left, used_then}
use Rattle.storage.specs.declared.reader.Reader.{Reader}
use Rattle.storage.specs.declared.reader.ReaderMeta.{ReaderMeta}
use Rattle.storage.specs.Freed.{stack}
use Rattle.storage.specs.Registry.{most, lives, Live, Shut, Numbered, Stack, Apart}
use Rattle.storage.proofs.Entries.{not_open, live-within, apart_from, lives-from, closed-set, below_set, shut-blank, lives-blank, live-map, lives-map}

-- the table's facts, under the names in its record
abbrev pub Sound : List (Option Reader) → List ℕ → ℕ → Type 0
Sound rs freed used =
    record {
      long : length rs ≡ most;
      few : used ≤ most;
      whole : lives rs + length freed ≡ used;
      numbered : Numbered rs used;
      stacked : Stack rs freed used;
      apart : Apart freed;
    }

-- the same of equal parts
pub sound_as : (rs qs : List (Option Reader)) (freed left : List ℕ) (used more : ℕ) → rs ≡ qs → freed ≡ left → used ≡ more → Sound qs left more → Sound rs freed used
sound_as rs qs freed left used more a b d s = rw (a, b, d) s

-- what holds of each number on the stack, as another fact of it does
all_more : {P Q : ℕ → Type 0} (freed : List ℕ) → ((n : ℕ) → P n → Q n) → AllByRecursion P freed → AllByRecursion Q freed
all_more [] h a = tt
all_more (n ∷ freed) h a = (h n a.0, all_more freed h a.1)

-- an open number does not stand on the stack
not_stacked : (rs : List (Option Reader)) (i used : ℕ) (freed : List ℕ) → Live rs i → Stack rs freed used → AllByRecursion (λ n. nat_eq i n ≡ false) freed
not_stacked rs i used freed lv = all_more freed (λ n p. ne_eqb i n (λ e. apart_from rs i n lv p.1 (sym e)))

-- the stack's facts stay where the number of the changed entry does not stand on it
stack-set : (rs : List (Option Reader)) (i : ℕ) (e : Option Reader) (used : ℕ) (freed : List ℕ) → AllByRecursion (λ n. nat_eq i n ≡ false) freed → Stack rs freed used → Stack (set rs i e) freed used
stack-set rs i e used [] other s = tt
stack-set rs i e used (n ∷ freed) other s =
    ((s.0.0, closed-set rs i e n (λ same. both_ways _ other.0 (eq-eqb i n (sym same))) s.0.1), stack-set rs i e used freed other.1 s.1)

pub new_sound : Sound (replicate most None) [] 0
new_sound =
    record {
      long = length-replicate {A = Option Reader} most None;
      few = omega arith;
      whole = omega (arith, lives-blank most);
      numbered = λ k lv. absurd (both_ways _ (shut-blank most k) lv);
      stacked = tt;
      apart = IsDistinct-from_apart nat_eq [] (λ i j d less short. absurd (omega arith));
    }

-- registering, under an unused number and under a freed one
pub opened-sound : (rs : List (Option Reader)) (freed : List ℕ) (used : ℕ) (r : Reader) → lives rs < most → Sound rs freed used
    → Sound (set rs (number_taken freed used) (Some r)) (freed_left freed) (used_then freed used)
opened-sound rs [] used r room s =
    let dead : Shut rs used = not_open _ (λ lv. let z = s.numbered used lv in omega arith) in
    let count = lives-from rs used (Some r) false true (omega (arith, s.long, s.whole)) dead refl in
    record {
      long = length-set rs used (Some r) ∙ s.long;
      few = omega (arith, s.whole);
      whole = omega (arith, count, s.whole);
      numbered = below_set rs used (Some r) used (used + 1) (omega arith) (omega arith) s.numbered;
      stacked = tt;
      apart = s.apart;
    }
opened-sound rs (n ∷ freed) used r room s =
    let count = lives-from rs n (Some r) false true (omega (arith, s.long, s.few, s.stacked.0.0)) s.stacked.0.1 refl in
    record {
      long = length-set rs n (Some r) ∙ s.long;
      few = s.few;
      whole = omega (arith, count, s.whole);
      numbered = below_set rs n (Some r) used used s.stacked.0.0 (omega arith) s.numbered;
      stacked = stack-set rs n (Some r) used freed (IsDistinct-head nat_eq n freed s.apart) s.stacked.1;
      apart = IsDistinct-tail nat_eq n freed s.apart;
    }

module _ (rs : List (Option Reader)) (freed : List ℕ) (used n : ℕ) (lv : Live rs n) (s : Sound rs freed used) where
  -- closing
  pub removed-sound : Sound (set rs n None) (n ∷ freed) used
  removed-sound =
      let count = lives-from rs n None true false (live-within rs n lv) lv refl in
      let here : Shut (set rs n None) n = rw (get_or-set_same rs n None None (live-within rs n lv)) refl in
      let other = not_stacked rs n used freed lv s.stacked in
      record {
        long = length-set rs n None ∙ s.long;
        few = s.few;
        whole = omega (arith, count, s.whole);
        numbered = below_set rs n None used used (s.numbered n lv) (omega arith) s.numbered;
        stacked = ((s.numbered n lv, here), stack-set rs n None used freed other s.stacked);
        apart = IsDistinct-cons nat_eq n freed other s.apart;
      }

  -- a read
  pub advanced-sound : (r : Reader) → Sound (set rs n (Some r)) freed used
  advanced-sound r =
      let count = lives-from rs n (Some r) true true (live-within rs n lv) lv refl in
      record {
        long = length-set rs n (Some r) ∙ s.long;
        few = s.few;
        whole = omega (arith, count, s.whole);
        numbered = below_set rs n (Some r) used used (s.numbered n lv) (omega arith) s.numbered;
        stacked = stack-set rs n (Some r) used freed (not_stacked rs n used freed lv s.stacked) s.stacked;
        apart = s.apart;
      }

-- growth
pub shifted-sound : (f : Reader → Reader) (rs : List (Option Reader)) (freed : List ℕ) (used : ℕ) → Sound rs freed used → Sound (map (option_map f) rs) freed used
shifted-sound f rs freed used s =
    let same = live-map f rs in
    record {
      long = length-map rs (option_map f) ∙ s.long;
      few = s.few;
      whole = omega (arith, lives-map f rs, s.whole);
      numbered = λ k lv. s.numbered k (sym (same k) ∙ lv);
      stacked = all_more freed (λ n p. (p.0, same n ∙ p.1)) s.stacked;
      apart = s.apart;
    }

pub sound-of : (g : ReaderMeta) → Sound g.readers (stack g.free) g.used
sound-of g = record { long = g.long; few = g.few; whole = g.whole; numbered = g.numbered; stacked = g.stacked; apart = g.apart }
