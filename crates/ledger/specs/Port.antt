-- A program whose calls answer as the ledger does. Assumes nothing.
use Rattle.std.specs.Prelude.{◌≡◌, ℕ, ◌↔◌, List, [], ◌∷◌, length}
use Rattle.std.specs.List.{AllByRecursion}
use Rattle.ledger.specs.Ledger.{Ledger, Written, Opening, just_opened, outcome, waiting_for, Open}
use Rattle.ledger.specs.Ledger.Call.{read, write}
use Rattle.ledger.specs.Ledger.Answer.{handed, wrote}
use Rattle.ledger.specs.Sound.{Sound}
use Rattle.ledger.specs.Histories.{Entry, entry, Told, after, accepted, Writes, ReaderOf, total, accepted_to_read, accepted_since, OpenAtEnd}
use Rattle.ledger.specs.Laws.{Equal, ReaderHolds}

-- A port: the states of a program, the ledger that each state stands for, and the calls, each with its answer, that lead
-- from one state to another. What it must show is that each call answers as the ledger does and leaves its ledger.
pub record Port (E St : Type 0) : Type 1 where
  pub ledger_of : St → Ledger E
  pub Did : St → Entry E → St → Type 0
  pub as_ledger : (s : St) (e : Entry E) (t : St) → Did s e t → outcome (ledger_of s) e.call ≡ (e.answer, ledger_of t)

module _ {E St : Type 0} (P : Port E St) where
  -- these calls, one after another, lead from state s to state t
  abbrev pub Chain : St → List (Entry E) → St → Type 0
  Chain s [] t = s ≡ t
  Chain s (e ∷ es) t = (u : St) × P.Did s e u × Chain u es t

  -- these calls lead to state t from a channel just opened
  pub record Calls (es : List (Entry E)) (t : St) : Type 0 where
    pub start : St
    pub opening : Opening
    pub opened : P.ledger_of start ≡ just_opened opening
    pub chain : Chain start es t

  -- an accepted read by n would hand out xs now
  abbrev pub WouldHand : St → ℕ → List E → Type 0
  WouldHand t n xs = (slots : ℕ) × (instance : ℕ) × (u : St) × P.Did t (entry (read slots instance n) (handed xs)) u

  -- an accepted empty write would answer this size now
  abbrev pub WouldSize : St → ℕ → Type 0
  WouldSize t size = (slots : ℕ) × (w : Written) × (u : St) × P.Did t (entry (write slots []) (wrote w)) u × (w.size ≡ size)

  -- the laws of the ledger, in terms of what the program's own calls answer
  pub record PortLaws : Type 0 where
    -- each answer is the ledger's, and the ledger of the state reached is the ledger after these calls
    pub told : (es : List (Entry E)) (s t : St) → Chain s es t → Told (P.ledger_of s) es × (after (P.ledger_of s) es ≡ P.ledger_of t)
    pub sound : (es : List (Entry E)) (t : St) → Calls es t → Sound (P.ledger_of t)
    -- what a read would hand out is the list that waits, and what an empty write would answer is the size
    pub waiting_is : (t : St) (n : ℕ) (xs : List E) → WouldHand t n xs → waiting_for (P.ledger_of t) n ≡ xs
    pub size_is : (t : St) (size : ℕ) → WouldSize t size → (P.ledger_of t).size ≡ size
    -- each reader was handed what was accepted up to its latest read, and the rest waits
    pub readers_hold : (es : List (Entry E)) (t : St) → Calls es t → (r : ReaderOf es) → ReaderHolds (P.ledger_of t) r
    -- each open number is that of a reader open at the end
    pub open_one : (es : List (Entry E)) (t : St) → Calls es t → (n : ℕ) → Open (P.ledger_of t) n → (r : ReaderOf es) × (r.number ≡ n) × OpenAtEnd r
    -- two readers: equal totals exactly when equal events were accepted from registration to latest read
    pub equal_totals :
        (es fs : List (Entry E)) (t u : St) → Calls es t → Calls fs u → (r : ReaderOf es) (s : ReaderOf fs)
        → (total r ≡ total s) ↔ (accepted_to_read r ≡ accepted_to_read s)
    -- two open readers of one channel: reads would hand out equal lists exactly when equally many events were accepted since
    -- each one's latest read
    pub equal_waiting :
        (es : List (Entry E)) (t : St) → Calls es t → (r s : ReaderOf es) → OpenAtEnd r → OpenAtEnd s
        → (xs ys : List E) → WouldHand t r.number xs → WouldHand t s.number ys
        → (xs ≡ ys) ↔ (length (accepted_since r) ≡ length (accepted_since s))
    -- two equal channels with a reader open, each after accepted writes: equal exactly when the joined events are equal
    pub equal_after_writes :
        (es fs : List (Entry E)) (t u : St) → Calls es t → Calls fs u
        → Equal (P.ledger_of t) (P.ledger_of u) → (n : ℕ) → Open (P.ledger_of t) n
        → (vs ws : List (Entry E)) (t' u' : St) → Chain t vs t' → Chain u ws u' → AllByRecursion Writes vs → AllByRecursion Writes ws
        → Equal (P.ledger_of t') (P.ledger_of u') ↔ (accepted vs ≡ accepted ws)

-- the port with every call that the ledger allows: any other port with these states and ledgers has fewer calls
abbrev pub widest : {E St : Type 0} → (St → Ledger E) → Port E St
widest ledger_of =
    record { ledger_of = ledger_of; Did = λ s e t. outcome (ledger_of s) e.call ≡ (e.answer, ledger_of t); as_ledger = λ s e t d. d }

-- so that every program whose calls answer as the ledger does keeps the laws
abbrev pub PortsKeepLaws : Type 0 → Type 0 → Type 0
PortsKeepLaws E St = (ledger_of : St → Ledger E) → PortLaws (widest ledger_of)
