-- The ledger that a ring and its slots stand for, and what the ring's answers are to it. Assumes nothing.
use Rattle.std.specs.Prelude.{ℕ, List, map, Option, Ok, Err, Result}
use Rattle.std.specs.Option.{option_map_or}
use Rattle.source.specs.declared.fault.Fault.{Fault}
use Rattle.source.specs.Faults.{number_of}
use Rattle.ledger.specs.Ledger as ledger
use Rattle.ledger.specs.Ledger.{Ledger, Answer}
use Rattle.storage.specs.declared.reader.Reader.{Reader}
use Rattle.storage.specs.declared.ring.RingBuffer.{RingBuffer}
use Rattle.storage.specs.declared.view.View.{View}
use Rattle.storage.specs.Freed.{stack}
use Rattle.storage.specs.Slots.{waiting_in}
use Rattle.storage.specs.Views.{unread}

module _ {E : Type 0} where
  -- what one entry of the table stands for
  abbrev pub reader_of : List E → ℕ → ℕ → ℕ → Option Reader → ledger.Reader E
  reader_of slots last size generation o = option_map_or (λ r. ledger.waiting (waiting_in slots last size generation r)) o ledger.shut

  -- the same of figures: instance number and slot count, slots, last place, size and generation, and the table's parts
  abbrev pub ledger_with : ℕ → ℕ → List E → ℕ → ℕ → ℕ → List (Option Reader) → List ℕ → ℕ → Ledger E
  ledger_with instance count slots last size generation readers freed used =
      record {
        instance = instance;
        size = size;
        slots = count;
        readers = map (reader_of slots last size generation) readers;
        freed = freed;
        used = used;
      }

  abbrev pub ledger_of : RingBuffer E → List E → Ledger E
  ledger_of r slots = ledger_with r.instance r.slots slots r.last.index r.last.size r.generation r.meta.readers (stack r.meta.free) r.meta.used

  abbrev pub registers : Result ℕ Fault → Answer E
  registers (Ok n) = ledger.registered n
  registers (Err f) = ledger.refused (number_of f)

  abbrev pub closes : Result (Unit {0}) Fault → Answer E
  closes (Ok _) = ledger.closed
  closes (Err f) = ledger.refused (number_of f)

  abbrev pub hands : Result (View E) Fault → Answer E
  hands (Ok v) = ledger.handed (unread v)
  hands (Err f) = ledger.refused (number_of f)
