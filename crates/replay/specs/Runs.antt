-- What a list of calls does on a channel, through the channel's public calls. Assumes nothing.
use Rattle.std.specs.Prelude.{◌≡◌, ℕ, cond, List, [], ◌∷◌, ◌++◌, map, length, Some, None, Option, ◌==◌, nat_lt, slice_index_or, slice_set}
use Rattle.std.specs.Option.{option_map}
use Rattle.ledger.specs.Ledger as ledger
use Rattle.ledger.specs.Ledger.{Ledger, Answer, outcome}
use Rattle.ledger.specs.Ledger.Call.{register, write, read, close}
use Rattle.ledger.specs.Ledger.Answer.{refused, registered, wrote, handed, closed}
use Rattle.ledger.specs.Histories as histories
use Rattle.ledger.specs.Histories.{Entry}
use Rattle.shrev.specs.declared.channel.EventChannel.{EventChannel}
use Rattle.shrev.specs.declared.id.ReaderId.{ReaderId}
use Rattle.shrev.specs.Channels.{ledger_of}
use Rattle.replay.specs.Steps.{Held, with_slots}
use Rattle.replay.specs.declared.words.Call.{Call}
use Rattle.replay.specs.declared.words.Call.TheVariants.{Register, Write, WriteElsewhere, Read, ReadElsewhere, Close}

-- a channel, its slots, and the table of the ids that are held
pub record State (E : Type 0) : Type 0 where
  pub channel : EventChannel E
  pub slots : List E
  pub ids : List (Option (ReaderId E))

module _ {E : Type 0} where
  abbrev pub state : EventChannel E → List E → List (Option (ReaderId E)) → State E
  state c slots ids = record { channel = c; slots = slots; ids = ids }

  -- the channel with its slots
  abbrev pub held : State E → Held E
  held p = with_slots p.channel p.slots

  -- the ledger that a state stands for
  abbrev pub ledger_in : State E → Ledger E
  ledger_in p = ledger_of p.channel p.slots

  -- what the ledger says of a call that is made, or of none
  abbrev pub replies : Ledger E → Option (ledger.Call E) → Option (Answer E) × Ledger E
  replies l None = (None, l)
  replies l (Some c) = (Some (outcome l c).0, (outcome l c).1)

  -- the entry of a call that was made and answered
  abbrev pub entry : Option (ledger.Call E) → Option (Answer E) → List (Entry E)
  entry (Some c) (Some a) = histories.entry c a ∷ []
  entry (Some c) None = []
  entry None a = []

  -- a registration is made where its place is empty
  abbrev pub if_empty : Option (ReaderId E) → Option (ledger.Call E)
  if_empty None = Some register
  if_empty (Some id) = None

  abbrev pub registers_at : List (Option (ReaderId E)) → ℕ → Option (ledger.Call E)
  registers_at ids place = cond (nat_lt place (length ids)) (if_empty (slice_index_or ids place None)) None

  -- reads and closes are made where an id stands in the place
  abbrev pub reads_at : ℕ → List (Option (ReaderId E)) → ℕ → Option (ledger.Call E)
  reads_at count ids place = option_map (λ id. read count id.instance id.number) (slice_index_or ids place None)

  abbrev pub closes_at : List (Option (ReaderId E)) → ℕ → Option (ledger.Call E)
  closes_at ids place = option_map (λ id. close id.instance id.number) (slice_index_or ids place None)

  -- an accepted registration puts into the place an id that bears the channel's instance number and the answered number;
  -- nothing else changes the table
  abbrev pub IdsRegistered : ℕ → List (Option (ReaderId E)) → ℕ → Option (Answer E) → List (Option (ReaderId E)) → Type 0
  IdsRegistered instance was place (Some (registered n)) now =
      (id : ReaderId E) × (id.instance ≡ instance) × (id.number ≡ n) × (now ≡ slice_set was place (Some id))
  IdsRegistered instance was place None now = now ≡ was
  IdsRegistered instance was place (Some (refused n)) now = now ≡ was
  IdsRegistered instance was place (Some (wrote w)) now = now ≡ was
  IdsRegistered instance was place (Some (handed xs)) now = now ≡ was
  IdsRegistered instance was place (Some closed) now = now ≡ was

  -- an accepted close empties the place; a refused one leaves the same id there
  abbrev pub ids_closed : List (Option (ReaderId E)) → ℕ → Option (Answer E) → List (Option (ReaderId E))
  ids_closed was place (Some closed) = slice_set was place None
  ids_closed was place None = was
  ids_closed was place (Some (refused n)) = was
  ids_closed was place (Some (registered n)) = was
  ids_closed was place (Some (wrote w)) = was
  ids_closed was place (Some (handed xs)) = was

  -- what is left of a source: an accepted write empties it, and those below lose its events and no others; any other call
  -- leaves it as it was
  abbrev pub Drawn : {S : Type 0} → (S → List E) → (S → List (List E)) → S → Option (Answer E) → S → Type 0
  Drawn means beneath s (Some (wrote w)) t = (means t ≡ []) × (beneath s ≡ map (λ xs. means s ++ xs) (beneath t))
  Drawn means beneath s None t = t ≡ s
  Drawn means beneath s (Some (refused n)) t = t ≡ s
  Drawn means beneath s (Some (registered n)) t = t ≡ s
  Drawn means beneath s (Some (handed xs)) t = t ≡ s
  Drawn means beneath s (Some closed) t = t ≡ s

  -- a call that is refused or not made leaves this as it was
  abbrev pub Unmoved : {X : Type 0} → Option (Answer E) → X → X → Type 0
  Unmoved None was now = now ≡ was
  Unmoved (Some (refused n)) was now = now ≡ was
  Unmoved (Some (registered n)) was now = Unit {0}
  Unmoved (Some (wrote w)) was now = Unit {0}
  Unmoved (Some (handed xs)) was now = Unit {0}
  Unmoved (Some closed) was now = Unit {0}

-- `means` and `beneath` are those of the sources, and `others` is the count of the other slots
module _ {E S : Type 0} (means : S → List E) (beneath : S → List (List E)) (others : ℕ) where
  -- an elsewhere call is made only where the other slots are of another count than the channel's
  abbrev pub elsewhere : State E → Option (ledger.Call E) → Option (ledger.Call E)
  elsewhere p call = cond (others == p.channel.ring.slots) None call

  -- the ledger's call that a call of the list is, or none where it is not made
  abbrev pub asked : State E → Call S → Option (ledger.Call E)
  asked p (Register place) = registers_at p.ids place
  asked p (Write s) = Some (write (length p.slots) (means s))
  asked p (WriteElsewhere s) = elsewhere p (Some (write others (means s)))
  asked p (Read place) = reads_at (length p.slots) p.ids place
  asked p (ReadElsewhere place) = elsewhere p (reads_at others p.ids place)
  asked p (Close place) = closes_at p.ids place

  -- the table of ids after the call
  abbrev pub Ids : State E → Call S → Option (Answer E) → List (Option (ReaderId E)) → Type 0
  Ids p (Register place) a now = IdsRegistered p.channel.ring.instance p.ids place a now
  Ids p (Write s) a now = now ≡ p.ids
  Ids p (WriteElsewhere s) a now = now ≡ p.ids
  Ids p (Read place) a now = now ≡ p.ids
  Ids p (ReadElsewhere place) a now = now ≡ p.ids
  Ids p (Close place) a now = now ≡ ids_closed p.ids place a

  -- the call after it was made: only its source is drawn from
  abbrev pub Left : Call S → Option (Answer E) → Call S → Type 0
  Left (Write s) a d = (t : S) × (d ≡ Write t) × Drawn means beneath s a t
  Left (WriteElsewhere s) a d = (t : S) × (d ≡ WriteElsewhere t) × Drawn means beneath s a t
  Left (Register place) a d = d ≡ Register place
  Left (Read place) a d = d ≡ Read place
  Left (ReadElsewhere place) a d = d ≡ ReadElsewhere place
  Left (Close place) a d = d ≡ Close place

  -- one call of the list: `a` is its answer, or none where it is not made, and `d` the call afterwards
  pub record Took (p : State E) (c : Call S) (a : Option (Answer E)) (d : Call S) (q : State E) : Type 0 where
    pub told : (a, ledger_in q) ≡ replies (ledger_in p) (asked p c)
    pub unmoved : Unmoved a (held p) (held q)
    pub ids : Ids p c a q.ids
    pub left : Left c a d

  -- the calls one after another, each with its answer and with what is left of it; `es` has those that were made
  abbrev pub Ran : State E → List (Call S) → List (Option (Answer E)) → List (Call S) → List (Entry E) → State E → Type 0
  Ran p [] [] [] es q = (es ≡ []) × (p ≡ q)
  Ran p [] [] (d ∷ ds) es q = ⊥
  Ran p [] (a ∷ rest) ds es q = ⊥
  Ran p (c ∷ cs) [] ds es q = ⊥
  Ran p (c ∷ cs) (a ∷ rest) [] es q = ⊥
  Ran p (c ∷ cs) (a ∷ rest) (d ∷ ds) es q =
      (m : State E) × (fs : List (Entry E)) × (es ≡ entry (asked p c) a ++ fs) × Took p c a d m × Ran m cs rest ds fs q
