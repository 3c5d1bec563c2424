-- What each call does to the table of readers. Assumes nothing.
use Rattle.std.specs.Prelude.{◌≡◌, ℕ, ◌<◌, List, Some, Option, slice_set}
use Rattle.ledger.specs.Ledger.{number_taken, freed_left, used_then}
use Rattle.storage.specs.declared.reader.Reader.{Reader}
use Rattle.storage.specs.declared.reader.ReaderMeta.{ReaderMeta}
use Rattle.storage.specs.Freed.{stack}
use Rattle.storage.specs.Registry.{most}

-- the table's readers, its freed numbers, the latest first, and how many numbers were ever used
pub record HasParts (g : ReaderMeta) (readers : List (Option Reader)) (freed : List ℕ) (used : ℕ) : Type 0 where
  pub readers_are : g.readers ≡ readers
  pub freed_are : stack g.free ≡ freed
  pub used_is : g.used ≡ used

-- a registration under the number n, the latest freed one, else the next unused one
pub record Opened (g h : ReaderMeta) (reader : Reader) (n : ℕ) : Type 0 where
  pub number : n ≡ number_taken (stack g.free) g.used
  pub room : n < most
  pub parts : HasParts h (slice_set g.readers n (Some reader)) (freed_left (stack g.free)) (used_then (stack g.free) g.used)
