-- Lists of calls with what each answered, and what they say of readers. Assumes nothing.
use Rattle.std.specs.Prelude.{◌≡◌, ℕ, cond, List, [], ◌∷◌, ◌++◌, ◌==◌}
use Rattle.std.specs.List.{flat_map, AllByRecursion}
use Rattle.ledger.specs.Ledger.{Ledger, Call, Answer, Written, Opening, just_opened, outcome}
use Rattle.ledger.specs.Ledger.Call.{register, write, read, close}
use Rattle.ledger.specs.Ledger.Answer.{refused, registered, wrote, handed, closed}

-- a call, refused or accepted, and what it answered
pub record Entry (E : Type 0) : Type 0 where
  pub call : Call E
  pub answer : Answer E

module _ {E : Type 0} where
  abbrev pub entry : Call E → Answer E → Entry E
  entry c a = record { call = c; answer = a }

  -- the events that one entry brought in: those of an accepted write
  abbrev pub brought : Call E → Answer E → List E
  brought register a = []
  brought (write slots new) (wrote w) = new
  brought (write slots new) (refused k) = []
  brought (write slots new) (registered k) = []
  brought (write slots new) (handed xs) = []
  brought (write slots new) closed = []
  brought (read slots i n) a = []
  brought (close i n) a = []

  -- the events that one entry handed to reader n: those of an accepted read by n
  abbrev pub gave : ℕ → Call E → Answer E → List E
  gave n register a = []
  gave n (write slots new) a = []
  gave n (read slots i m) (handed xs) = cond (m == n) xs []
  gave n (read slots i m) (refused k) = []
  gave n (read slots i m) (registered k) = []
  gave n (read slots i m) (wrote w) = []
  gave n (read slots i m) closed = []
  gave n (close i m) a = []

  -- the events of all accepted writes, joined in the order of the calls
  abbrev pub accepted : List (Entry E) → List E
  accepted = flat_map (λ e. brought e.call e.answer)

  -- the events of all accepted reads by n, joined in the order of the calls
  abbrev pub handed_to : ℕ → List (Entry E) → List E
  handed_to n = flat_map (λ e. gave n e.call e.answer)

  -- the accepted registration that gave number n
  abbrev pub registration : ℕ → Entry E
  registration n = entry register (registered n)

  -- an accepted read by n, an accepted close of n, and an accepted write
  abbrev pub Reads : ℕ → Entry E → Type 0
  Reads n e = (slots : ℕ) × (instance : ℕ) × (xs : List E) × (e ≡ entry (read slots instance n) (handed xs))

  abbrev pub Closes : ℕ → Entry E → Type 0
  Closes n e = (instance : ℕ) × (e ≡ entry (close instance n) closed)

  abbrev pub Writes : Entry E → Type 0
  Writes e = (slots : ℕ) × (new : List E) × (w : Written) × (e ≡ entry (write slots new) (wrote w))

  -- no entry is such a one
  abbrev pub Never : (Entry E → Type 0) → List (Entry E) → Type 0
  Never P es = AllByRecursion (λ e. P e → ⊥) es

  -- there is no entry, or the first is such a one
  abbrev pub Begins : (Entry E → Type 0) → List (Entry E) → Type 0
  Begins P [] = Unit {0}
  Begins P (e ∷ es) = P e

  -- there is no entry, or the last is such a one
  abbrev pub Ends : (Entry E → Type 0) → List (Entry E) → Type 0
  Ends P [] = Unit {0}
  Ends P (e ∷ []) = P e
  Ends P (e ∷ f ∷ es) = Ends P (f ∷ es)

  -- from this ledger on, each answer is the ledger's
  abbrev pub Told : Ledger E → List (Entry E) → Type 0
  Told l [] = Unit {0}
  Told l (e ∷ es) = ((outcome l e.call).0 ≡ e.answer) × Told (outcome l e.call).1 es

  -- the ledger after these calls
  abbrev pub after : Ledger E → List (Entry E) → Ledger E
  after l [] = l
  after l (e ∷ es) = after (outcome l e.call).1 es

-- an accepted opening, and calls on the channel with the ledger's answers
pub record History (E : Type 0) : Type 0 where
  pub opening : Opening
  pub entries : List (Entry E)
  pub told : Told (just_opened opening) entries

module _ {E : Type 0} where
  -- the ledger in which a history ends
  abbrev pub at_end : History E → Ledger E
  at_end h = after (just_opened h.opening) h.entries

  -- a reader's life, split after its latest accepted read; where it has none, after its registration, which comes before the life
  pub record LatestRead (n : ℕ) (life : List (Entry E)) : Type 0 where
    pub through : List (Entry E)
    pub since : List (Entry E)
    pub split : life ≡ through ++ since
    pub latest : Ends (Reads n) through
    pub none_later : Never (Reads n) since

  -- a reader: one accepted registration, and the entries of its life, up to its close or the end of the list
  pub record ReaderOf (es : List (Entry E)) : Type 0 where
    pub number : ℕ
    pub earlier : List (Entry E)
    pub life : List (Entry E)
    pub later : List (Entry E)
    pub whole : es ≡ earlier ++ registration number ∷ (life ++ later)
    pub unclosed : Never (Closes number) life
    pub ended : Begins (Closes number) later
    pub last : LatestRead number life

module _ {E : Type 0} {es : List (Entry E)} where
  -- a reader's total: all its accepted reads joined
  abbrev pub total : ReaderOf es → List E
  total r = handed_to r.number r.life

  -- the events accepted from its registration to its latest read
  abbrev pub accepted_to_read : ReaderOf es → List E
  accepted_to_read r = accepted r.last.through

  -- the events accepted in its life since its latest read
  abbrev pub accepted_since : ReaderOf es → List E
  accepted_since r = accepted r.last.since

  -- the list ends before the reader is closed
  abbrev pub OpenAtEnd : ReaderOf es → Type 0
  OpenAtEnd r = r.later ≡ []
