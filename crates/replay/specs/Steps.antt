-- A channel with its slots as a port of the ledger: each step is what a public call ensures. Assumes nothing.
use Rattle.std.specs.Prelude.{◌≡◌, ℕ, ◌≢◌, ◌⊎◌, List, length, Result}
use Rattle.source.specs.declared.fault.Fault.{Fault}
use Rattle.ledger.specs.Ledger.{Ledger, Call, Answer, outcome}
use Rattle.ledger.specs.Ledger.Call.{register, write, read, close}
use Rattle.ledger.specs.Histories.{Entry}
use Rattle.ledger.specs.Port.{Port, PortLaws, widest}
use Rattle.storage.specs.declared.view.View.{View}
use Rattle.storage.specs.declared.written.Written.{Written}
use Rattle.storage.specs.Ledgers.{hands}
use Rattle.storage.specs.Writes.{Stores, writes}
use Rattle.shrev.specs.declared.channel.EventChannel.{EventChannel}
use Rattle.shrev.specs.declared.id.ReaderId.{ReaderId}
use Rattle.shrev.specs.Channels.{ledger_of, registers, closes, Unchanged}

-- a channel with its own slots
abbrev pub Held : Type 0 → Type 0
Held E = EventChannel E × List E

module _ {E : Type 0} where
  abbrev pub with_slots : EventChannel E → List E → Held E
  with_slots c slots = (c, slots)

  abbrev pub ledger_held : Held E → Ledger E
  ledger_held s = ledger_of s.0 s.1

  -- a registration; no slots are handed in
  pub record Registers (c d : EventChannel E) (a : Answer E) : Type 0 where
    pub result : Result (ReaderId E) Fault
    pub answer : a ≡ registers result
    pub ledger : (slots : List E) → (registers result, ledger_of d slots) ≡ outcome (ledger_of c slots) register

  -- a close of the reader that an id names
  pub record Closes (c d : EventChannel E) (instance number : ℕ) (a : Answer E) : Type 0 where
    pub result : Result (Unit {0}) (Fault × ReaderId E)
    pub answer : a ≡ closes result
    pub ledger : (slots : List E) → (closes result, ledger_of d slots) ≡ outcome (ledger_of c slots) (close instance number)

  -- a write of these events, over the slots that are handed in
  pub record Writes (c d : EventChannel E) (slots slots' new : List E) (a : Answer E) : Type 0 where
    pub result : Result Written Fault
    pub answer : a ≡ writes result
    pub ledger : (writes result, ledger_of d slots') ≡ outcome (ledger_of c slots) (write (length slots) new)
    pub stored : Stores result c.ring d.ring slots slots' new

  -- a read by the reader that an id names, over the slots that are handed in
  pub record Reads (c d : EventChannel E) (slots : List E) (instance number : ℕ) (a : Answer E) : Type 0 where
    pub result : Result (View E) Fault
    pub answer : a ≡ hands result
    pub ledger : (hands result, ledger_of d slots) ≡ outcome (ledger_of c slots) (read (length slots) instance number)
    pub refused : Unchanged result c d

  -- one public call: with the channel's own slots, or with others of another count, whereby its own stay
  abbrev pub Does : Held E → Call E → Answer E → Held E → Type 0
  Does s register a t = (t.1 ≡ s.1) × Registers s.0 t.0 a
  Does s (close instance number) a t = (t.1 ≡ s.1) × Closes s.0 t.0 instance number a
  Does s (write count new) a t =
      ((count ≡ length s.1) × Writes s.0 t.0 s.1 t.1 new a)
      ⊎ ((others : List E) × (others' : List E) × (count ≡ length others) × (count ≢ s.0.ring.slots) × (t.1 ≡ s.1) × Writes s.0 t.0 others others' new a)
  Does s (read count instance number) a t =
      (t.1 ≡ s.1)
      × (((count ≡ length s.1) × Reads s.0 t.0 s.1 instance number a)
      ⊎ ((others : List E) × (count ≡ length others) × (count ≢ s.0.ring.slots) × Reads s.0 t.0 others instance number a))

  abbrev pub Step : Held E → Entry E → Held E → Type 0
  Step s e t = Does s e.call e.answer t

-- each public call answers as the ledger of the channel and its own slots does, and leaves its ledger
abbrev pub CallsAnswer : Type 0 → Type 0
CallsAnswer E =
    (s : Held E) (e : Entry E) (t : Held E) → Step s e t → outcome (ledger_held s) e.call ≡ (e.answer, ledger_held t)

abbrev pub channel_port : {E : Type 0} → CallsAnswer E → Port E (Held E)
channel_port answers = record { ledger_of = ledger_held; Did = Step; as_ledger = answers }

-- so every list of public calls on a channel keeps the laws, and so does any other list of calls that answer as the ledger
pub record ChannelsKeepLaws (E : Type 0) : Type 0 where
  pub answer : CallsAnswer E
  pub public_calls : PortLaws (channel_port answer)
  pub any_calls : PortLaws (widest (ledger_held {E = E}))
