-- Answers whose events stand in a log, and what every run keeps. Assumes nothing.
use Rattle.std.specs.Prelude.{◌≡◌, ℕ, ◌+◌, ◌*◌, ◌<◌, ◌≤◌, ◌↔◌, List, [], ◌∷◌, length, take, drop, Some, None, Ok, Err, Option, Result}
use Rattle.source.specs.Faults.{number_of}
use Rattle.source.specs.declared.fault.Fault.{Fault}
use Rattle.source.specs.declared.fault.Fault.TheVariants.{OtherSlots}
use Rattle.ledger.specs.Ledger.{Ledger, Answer, Opening, just_opened, opening_refusal, waiting_for, Open}
use Rattle.ledger.specs.Ledger.Answer.{refused, registered, wrote, handed, closed}
use Rattle.ledger.specs.Sound.{Sound}
use Rattle.ledger.specs.Histories.{Entry, Told, after, accepted, History, at_end, ReaderOf, total, accepted_to_read, accepted_since, OpenAtEnd}
use Rattle.ledger.specs.Laws.{ReaderHolds, Equal, RunOfWrites}
use Rattle.ledger.specs.Port.{Chain, widest}
use Rattle.storage.specs.declared.util.Issuer.{Issuer}
use Rattle.shrev.specs.declared.channel.EventChannel.{EventChannel}
use Rattle.shrev.specs.declared.id.ReaderId.{ReaderId}
use Rattle.shrev.specs.Channels.{ledger_of}
use Rattle.replay.specs.declared.words.Call.{Call}
use Rattle.replay.specs.declared.words.Reply.{Reply}
use Rattle.replay.specs.declared.words.Reply.TheVariants.{Registered, Wrote, Handed, Closed}
use Rattle.replay.specs.declared.words.NotRun.{NotRun}
use Rattle.replay.specs.declared.words.NotRun.TheVariants.{FewNotes, ShortLog, Denied}
use Rattle.replay.specs.declared.words.Replayed.{Replayed}
use Rattle.replay.specs.Steps.{ledger_held}
use Rattle.replay.specs.Runs.{State, state, Took, Ran}

-- what a call came to, or none where it was not made
abbrev pub Note : Type 0
Note = Option (Result Reply Fault)

-- how many events of the log a note counts
abbrev pub events : Note → ℕ
events (Some (Ok (Registered n))) = 0
events (Some (Ok (Wrote w))) = 0
events (Some (Ok (Handed n))) = n
events (Some (Ok Closed)) = 0
events (Some (Err f)) = 0
events None = 0

-- the call was refused because of other slots, or not made
abbrev pub IsTurnedAway : Note → Type 0
IsTurnedAway (Some (Err f)) = number_of f ≡ number_of OtherSlots
IsTurnedAway (Some (Ok x)) = ⊥
IsTurnedAway None = Unit {0}

abbrev pub all_events : List Note → ℕ
all_events [] = 0
all_events (a ∷ rest) = events a + all_events rest

module _ {E : Type 0} where
  -- the answer that a note stands for, with the events that it counts
  abbrev pub noted : Note → List E → Option (Answer E)
  noted (Some (Ok (Registered n))) xs = Some (registered n)
  noted (Some (Ok (Wrote w))) xs = Some (wrote (record { count = w.count; size = w.size }))
  noted (Some (Ok (Handed n))) xs = Some (handed xs)
  noted (Some (Ok Closed)) xs = Some closed
  noted (Some (Err f)) xs = Some (refused (number_of f))
  noted None xs = None

  -- the answers of a list of notes, each with its part of the log, one after another
  abbrev pub answers_of : List Note → List E → List (Option (Answer E))
  answers_of [] log = []
  answers_of (a ∷ rest) log = noted a (take (events a) log) ∷ answers_of rest (drop (events a) log)

  -- the laws of one told run, which ends in the ledger `end`
  pub record RunLaws (es : List (Entry E)) (end : Ledger E) : Type 0 where
    pub sound : Sound end
    -- every reader was handed exactly what was accepted from its registration to its latest read, and what was accepted
    -- since waits for it where it is open at the end
    pub readers_hold : (r : ReaderOf es) → ReaderHolds end r
    -- each number that is open at the end is that of a reader of this run
    pub open_one : (n : ℕ) → Open end n → (r : ReaderOf es) × (r.number ≡ n) × OpenAtEnd r
    -- two readers, both of this run or one of any other history: equal totals exactly when equal events were accepted from
    -- registration to latest read
    pub equal_totals : (r s : ReaderOf es) → (total r ≡ total s) ↔ (accepted_to_read r ≡ accepted_to_read s)
    pub equal_totals_beside : (k : History E) (r : ReaderOf es) (s : ReaderOf k.entries) → (total r ≡ total s) ↔ (accepted_to_read r ≡ accepted_to_read s)
    -- two readers open at the end: equal lists wait exactly when equally many events were accepted since each one's latest
    -- read
    pub equal_waiting :
        (r s : ReaderOf es) → OpenAtEnd r → OpenAtEnd s
        → (waiting_for end r.number ≡ waiting_for end s.number) ↔ (length (accepted_since r) ≡ length (accepted_since s))
    -- beside an equal channel of any other history, with a reader open: after two runs of accepted writes they are equal
    -- exactly when the joined events are equal
    pub equal_channels :
        (k : History E) → Equal end (at_end k) → (n : ℕ) → Open end n
        → (vs ws : List (Entry E)) → RunOfWrites end vs → RunOfWrites (at_end k) ws
        → Equal (after end vs) (after (at_end k) ws) ↔ (accepted vs ≡ accepted ws)

module _ {E S : Type 0} (means : S → List E) (beneath : S → List (List E)) (others : ℕ) where
  -- one call, whose events stand at the front of a log; the rest of the log stays
  pub record Logged (p : State E) (c : Call S) (log : List E) (a : Note) (log' : List E) (d : Call S) (q : State E) : Type 0 where
    pub back : drop (events a) log' ≡ drop (events a) log
    pub few : events a ≤ length p.slots
    pub took : Took means beneath others p c (noted a (take (events a) log')) d q

  -- every call of a list, with a note for each, and their events in the log from its start; notes and log beyond stay
  pub record LoggedAll (p : State E) (cs : List (Call S)) (notes : List Note) (log : List E) (n : ℕ) (notes' : List Note) (log' : List E) (ds : List (Call S)) (q : State E) : Type 0 where
    pub entries : List (Entry E)
    pub ran : Ran means beneath others p cs (answers_of (take (length cs) notes') log') ds entries q
    pub counted : n ≡ all_events (take (length cs) notes')
    pub notes_past : drop (length cs) notes' ≡ drop (length cs) notes
    pub log_past : drop n log' ≡ drop n log

-- what a run is given, and what it leaves: the issuer, the slots, the table of ids, the calls, the notes and the log
pub record Desk (E S : Type 0) : Type 0 where
  pub issuer : Issuer
  pub slots : List E
  pub ids : List (Option (ReaderId E))
  pub calls : List (Call S)
  pub notes : List Note
  pub log : List E

module _ {E S : Type 0} where
  abbrev pub desk : Issuer → List E → List (Option (ReaderId E)) → List (Call S) → List Note → List E → Desk E S
  desk issuer slots ids calls notes log =
      record { issuer = issuer; slots = slots; ids = ids; calls = calls; notes = notes; log = log }

  -- notes and log have room for whatever the calls answer
  abbrev pub EnoughNotes : Desk E S → Type 0
  EnoughNotes b = length b.calls ≤ length b.notes

  abbrev pub EnoughLog : Desk E S → Type 0
  EnoughLog b = length b.calls * length b.slots ≤ length b.log

  -- why no call was made
  abbrev pub Reason : ℕ → Desk E S → NotRun → Type 0
  Reason size b FewNotes = length b.notes < length b.calls
  Reason size b ShortLog = EnoughNotes b × (length b.log < length b.calls * length b.slots)
  Reason size b (Denied f) =
      EnoughNotes b × EnoughLog b × (opening_refusal b.issuer.next size (length b.slots) ≡ Some (number_of f))

module _ {E S : Type 0} (means : S → List E) (beneath : S → List (List E)) (others : ℕ) where
  -- a whole run on a channel that is opened for it
  pub record WholeRun (size : ℕ) (before : Desk E S) (x : Replayed E) (after' : Desk E S) : Type 0 where
    -- the opening has the figures asked for and the issuer's next number, which is used up
    pub opening : Opening
    pub instance : opening.instance ≡ before.issuer.next
    pub first_size : opening.size ≡ size
    pub slots : opening.slots ≡ length before.slots
    pub next : after'.issuer.next ≡ before.issuer.next + 1
    -- the run starts at the ledger of that opening, whatever the slots hold
    pub start : EventChannel E
    pub fresh : (slots : List E) → ledger_of start slots ≡ just_opened opening
    -- the calls that were made, with their answers: `ran` ties them to calls, notes, log and ids
    pub logged :
        LoggedAll means beneath others (state start before.slots before.ids) before.calls before.notes before.log
        x.events after'.notes after'.log after'.calls (state x.channel after'.slots after'.ids)
    -- each answer is the ledger's, and so is what the run ends in
    pub told : Told (just_opened opening) logged.entries
    pub ends : ledger_of x.channel after'.slots ≡ after (just_opened opening) logged.entries
    pub laws : RunLaws logged.entries (ledger_of x.channel after'.slots)
    -- the entries lead from the channel just opened, with its slots, to the channel and the slots at the end
    pub leads : Chain (widest ledger_held) (start, before.slots) logged.entries (x.channel, after'.slots)

  -- the whole list of calls, or none of it, and everything as it was
  abbrev pub Replays : ℕ → Desk E S → Result (Replayed E) NotRun → Desk E S → Type 0
  Replays size before (Ok x) after' = EnoughNotes before × EnoughLog before × WholeRun size before x after'
  Replays size before (Err e) after' = Reason size before e × (after' ≡ before)
