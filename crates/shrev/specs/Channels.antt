-- The ledger of a channel, and what its answers are to it. Assumes nothing.
use Rattle.std.specs.Prelude.{◌≡◌, List, Ok, Err, Result}
use Rattle.source.specs.declared.fault.Fault.{Fault}
use Rattle.source.specs.Faults.{number_of}
use Rattle.ledger.specs.Ledger as ledger
use Rattle.ledger.specs.Ledger.{Ledger, Answer}
use Rattle.storage.specs.Ledgers as ring
pub use Rattle.storage.specs.Calls.{Unchanged}
use Rattle.shrev.specs.declared.channel.EventChannel.{EventChannel}
use Rattle.shrev.specs.declared.id.ReaderId.{ReaderId}

module _ {E : Type 0} where
  abbrev pub ledger_of : EventChannel E → List E → Ledger E
  ledger_of c slots = ring.ledger_of c.ring slots

  abbrev pub registers : Result (ReaderId E) Fault → Answer E
  registers (Ok id) = ledger.registered id.number
  registers (Err f) = ledger.refused (number_of f)

  abbrev pub closes : Result (Unit {0}) (Fault × ReaderId E) → Answer E
  closes (Ok _) = ledger.closed
  closes (Err e) = ledger.refused (number_of e.0)

  -- a new id bears the channel's instance number
  abbrev pub Registered : Result (ReaderId E) Fault → EventChannel E → EventChannel E → Type 0
  Registered (Ok id) before after = id.instance ≡ before.ring.instance
  Registered (Err f) before after = after ≡ before

  -- a refused close gives back the id that it was handed
  abbrev pub HandedBack : Result (Unit {0}) (Fault × ReaderId E) → ReaderId E → EventChannel E → EventChannel E → Type 0
  HandedBack (Ok _) id before after = Unit {0}
  HandedBack (Err e) id before after = (e.1 ≡ id) × (after ≡ before)
