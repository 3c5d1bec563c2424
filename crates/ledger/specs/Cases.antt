-- Known answers. Assumes nothing.
use Rattle.std.specs.Prelude.{◌≡◌, ℕ, List, [], ◌∷◌}
use Rattle.ledger.specs.Ledger.{Ledger, Call, Answer, Opened, denied, granted, opened, outcome, register, write, read, close, refused, registered, wrote, handed, closed}

-- A known answer of any kind: what the definitions yield, and what is known. A list of cases can go on with cases of
-- other kinds.
pub record Case : Type 1 where
  pub Kind : Type 0
  pub yielded : Kind
  pub known : Kind

-- each case yields what is known
abbrev pub Holds : List Case → Type 0
Holds [] = Unit {0}
Holds (c ∷ cs) = (c.yielded ≡ c.known) × Holds cs

-- what the ledger answers to calls, one after another
abbrev pub answers : {E : Type 0} → Ledger E → List (Call E) → List (Answer E)
answers l [] = []
answers l (c ∷ cs) = (outcome l c).0 ∷ answers (outcome l c).1 cs

-- the answer of an opening by an issuer that starts at 0, and to the calls after it where it is accepted
abbrev pub session : ℕ → ℕ → List (Call ℕ) → Opened (List (Answer ℕ))
session size slots calls = elim (opened 0 size slots) [ denied n ↦ denied n | granted l ↦ granted (answers l calls) ]

-- a channel of numbers: the size and the count of slots of its opening, the calls, and what is known of their answers
abbrev pub on_channel : ℕ → ℕ → List (Call ℕ) → Opened (List (Answer ℕ)) → Case
on_channel size slots calls known = record { Kind = Opened (List (Answer ℕ)); yielded = session size slots calls; known = known }

-- the answer of an accepted write, by its count and the size afterwards
abbrev pub wrote_to : ℕ → ℕ → Answer ℕ
wrote_to count size = wrote (record { count = count; size = size })

abbrev pub known_cases : List Case
known_cases =
    -- a size below 2, and a size above the count of slots
    on_channel 1 8 [] (denied 1)
    ∷ on_channel 2 1 [] (denied 3)
    -- as many events unread as the size
    ∷ on_channel 2 2
    (register ∷ write 2 (7 ∷ 8 ∷ []) ∷ read 2 0 0 ∷ [])
    (granted (registered 0 ∷ wrote_to 2 2 ∷ handed (7 ∷ 8 ∷ []) ∷ []))
    -- one more, and no room for twice the size
    ∷ on_channel 2 3
    (register ∷ write 3 (7 ∷ 8 ∷ []) ∷ write 3 (9 ∷ []) ∷ read 3 0 0 ∷ [])
    (granted (registered 0 ∷ wrote_to 2 2 ∷ refused 9 ∷ handed (7 ∷ 8 ∷ []) ∷ []))
    -- one more, and room for it
    ∷ on_channel 2 4
    (register ∷ write 4 (7 ∷ 8 ∷ []) ∷ write 4 (9 ∷ []) ∷ read 4 0 0 ∷ [])
    (granted (registered 0 ∷ wrote_to 2 2 ∷ wrote_to 1 4 ∷ handed (7 ∷ 8 ∷ 9 ∷ []) ∷ []))
    -- a reader gets what is written after its registration
    ∷ on_channel 4 8
    (write 8 (1 ∷ 2 ∷ 3 ∷ []) ∷ register ∷ write 8 (4 ∷ 5 ∷ []) ∷ write 8 (6 ∷ 7 ∷ 8 ∷ []) ∷ read 8 0 0 ∷ [])
    (granted (wrote_to 3 4 ∷ registered 0 ∷ wrote_to 2 4 ∷ wrote_to 3 8 ∷ handed (4 ∷ 5 ∷ 6 ∷ 7 ∷ 8 ∷ []) ∷ []))
    -- the number freed last is taken first
    ∷ on_channel 2 2
    (register ∷ register ∷ close 0 1 ∷ close 0 0 ∷ register ∷ register ∷ [])
    (granted (registered 0 ∷ registered 1 ∷ closed ∷ closed ∷ registered 0 ∷ registered 1 ∷ []))
    -- an empty write brings nothing
    ∷ on_channel 2 2
    (register ∷ write 2 (7 ∷ 8 ∷ []) ∷ read 2 0 0 ∷ write 2 [] ∷ read 2 0 0 ∷ [])
    (granted (registered 0 ∷ wrote_to 2 2 ∷ handed (7 ∷ 8 ∷ []) ∷ wrote_to 0 2 ∷ handed [] ∷ []))
    ∷ []

abbrev pub KnownAnswers : Type 0
KnownAnswers = Holds known_cases
