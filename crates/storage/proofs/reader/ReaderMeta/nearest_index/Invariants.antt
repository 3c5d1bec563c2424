use Rattle.std.proofs.Common.{◌≡◌, ℕ, ◌<◌, ◌≤◌, List, Some, None, Option}
use Rattle.storage.specs.declared.reader.Reader.{Reader}
use Rattle.storage.specs.Registry.{entry, distance, Shut}
use Rattle.storage.proofs.reader.ReaderMeta.nearest_index.Given as goal

-- after n turns: nobody was found, or of the first n this number has the least distance, and is the lowest among equals
abbrev Seen : (Reader → ℕ) → List (Option Reader) → ℕ → Option (ℕ × ℕ) → Type 0
Seen far rs n None = (k : ℕ) → k < n → Shut rs k
Seen far rs n (Some p) =
    record {
      low : p.0 < n;
      reader : Reader;
      here : entry rs p.0 ≡ Some reader;
      least : p.1 ≡ far reader;
      all : (k : ℕ) (s : Reader) → k < n → entry rs k ≡ Some s → p.1 ≤ far s;
      before : (k : ℕ) (s : Reader) → k < p.0 → entry rs k ≡ Some s → p.1 < far s;
    }

abbrev pub invariant-loop-id : goal.invariant-loop-id
invariant-loop-id l = Seen (distance l.last.index l.last.size l.generation) l.self.readers l.id l.nearest
