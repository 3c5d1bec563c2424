-- What a ring keeps of each open reader, through registering, reading and closing.
use Rattle.std.proofs.Common.{◌≡◌, ℕ, ◌-◌, ◌^◌, ◌<◌, ◌≤◌, List, set, replicate, Some, None, Option, sym, refl, subst, arith}
use Rattle.storage.specs.declared.reader.Reader.{Reader}
use Rattle.storage.specs.declared.ring.RingBuffer.{RingBuffer}
use Rattle.storage.specs.Kept.{lag, Ahead, Places, Bounded, Lags, Level}
use Rattle.storage.specs.Registry.{most, fresh, distance, Each}
use Rattle.storage.proofs.Distances.{distance-fresh}
use Rattle.storage.proofs.Entries.{clash, each_set, shut-blank}
use Rattle.storage.proofs.Generations.{lag-none}

module _ (last size generation available : ℕ) where
  -- what a ring keeps of one open reader
  pub record Fine (r : Reader) : Type 0 where
    pub ahead : available ≤ distance last size generation r
    pub place : r.place < size
    pub bounded : r.generation < 2 ^ 64
    pub lags : lag generation r.generation ≤ size - distance last size generation r
    pub level : r.generation ≡ generation → r.place ≡ last

  -- a reader that has just registered, or read everything
  pub fresh-fine : last < size → available ≤ size → generation < 2 ^ 64 → Fine (fresh last generation)
  fresh-fine below spare fits =
      let far = distance-fresh last size generation below in
      let none = lag-none generation fits in
      record { ahead = omega arith; place = below; bounded = fits; lags = omega arith; level = λ _. refl }

  -- before anyone registered
  pub nobody-fine : Each Fine (replicate most None)
  nobody-fine k r is = clash _ r (shut-blank most k) is

module _ (available last size slots generation : ℕ) (rs : List (Option Reader)) where
  -- all facts of a ring, under the names in its record
  abbrev pub Facts : Type 0
  Facts =
      record {
        small : 2 ≤ size;
        room : size ≤ slots;
        few : slots ≤ 1048576;
        spare : available ≤ size;
        ahead : Ahead rs last size generation available;
        places : Places rs size;
        bounded : Bounded rs;
        lags : Lags rs last size generation;
        level : Level rs last generation;
      }

  pub facts : 2 ≤ size → size ≤ slots → slots ≤ 1048576 → available ≤ size → Each (Fine last size generation available) rs → Facts
  facts small room few spare fine =
      record {
        small = small;
        room = room;
        few = few;
        spare = spare;
        ahead = λ k r is. (fine k r is).ahead;
        places = λ k r is. (fine k r is).place;
        bounded = λ k r is. (fine k r is).bounded;
        lags = λ k r is. (fine k r is).lags;
        level = λ k r is. (fine k r is).level;
      }

module _ {E : Type 0} (r : RingBuffer E) where
  abbrev pub last_of : ℕ
  last_of = r.last.index

  abbrev pub size_of : ℕ
  size_of = r.last.size

  -- the facts of a ring with another table
  abbrev pub With : List (Option Reader) → Type 0
  With rs = Facts r.available last_of size_of r.slots r.generation rs

  pub fine_of : Each (Fine last_of size_of r.generation r.available) r.meta.readers
  fine_of k e is = record { ahead = r.ahead k e is; place = r.places k e is; bounded = r.bounded k e is; lags = r.lags k e is; level = r.level k e is }

  -- one entry is changed to one that is closed, or fine
  pub with_set : (rs : List (Option Reader)) (n : ℕ) (o : Option Reader) → rs ≡ set r.meta.readers n o
      → ((e : Reader) → o ≡ Some e → Fine last_of size_of r.generation r.available e) → With rs
  with_set rs n o same p =
      let P : Reader → Type 0 = Fine last_of size_of r.generation r.available in
      let all : Each P rs = subst (λ (xs : List (Option Reader)). Each P xs) (sym same) (each_set P r.meta.readers n o p fine_of) in
      facts r.available last_of size_of r.slots r.generation rs r.small r.room r.few r.spare all

  -- the same, where the entry has just registered or read
  pub with-fresh : (rs : List (Option Reader)) (n : ℕ) → rs ≡ set r.meta.readers n (Some (fresh last_of r.generation)) → r.generation < 2 ^ 64 → With rs
  with-fresh rs n same fits =
      with_set rs n (Some (fresh last_of r.generation)) same
      (λ e is. let here : fresh last_of r.generation ≡ e = cc in subst (λ (x : Reader). Fine last_of size_of r.generation r.available x) here (fresh-fine last_of size_of r.generation r.available r.last.within r.spare fits))

  -- a close
  pub with-shut : (rs : List (Option Reader)) (n : ℕ) → rs ≡ set r.meta.readers n None → With rs
  with-shut rs n same = with_set rs n None same (λ e is. clash None e refl is)
