-- What an issuer answers to an opening. Assumes nothing.
use Rattle.std.specs.Prelude.{◌≡◌, ℕ, ◌+◌, Some, None, Ok, Err, Result}
use Rattle.source.specs.declared.fault.Fault.{Fault}
use Rattle.source.specs.Faults.{number_of}
use Rattle.ledger.specs.Ledger.{opening_refusal}
use Rattle.storage.specs.declared.grant.Grant.{Grant}
use Rattle.storage.specs.declared.util.Issuer.{Issuer}

-- the size of a channel that nobody asked a size for
abbrev pub default_size : ℕ
default_size = 64

-- an accepted opening: the grant has the figures that were asked for and the issuer's next number, which is used up
pub record Granted (before after : Issuer) (asked count : ℕ) (grant : Grant) : Type 0 where
  pub unrefused : opening_refusal before.next asked count ≡ None
  pub instance : grant.instance ≡ before.next
  pub size : grant.size ≡ asked
  pub slots : grant.slots ≡ count
  pub next : after.next ≡ before.next + 1

-- a refused one uses no number up
pub record Denied (before after : Issuer) (asked count : ℕ) (fault : Fault) : Type 0 where
  pub refusal : opening_refusal before.next asked count ≡ Some (number_of fault)
  pub kept : after ≡ before

abbrev pub Opens : Result Grant Fault → Issuer → Issuer → ℕ → ℕ → Type 0
Opens (Ok grant) before after asked count = Granted before after asked count grant
Opens (Err fault) before after asked count = Denied before after asked count fault
