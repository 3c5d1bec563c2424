-- A whole script carried out: the opening, and then the other records.
use Rattle.std.proofs.Common.{◌≡◌, ℕ, ◌-◌, List, [], length, Some, None, Ok, Err, Option, sym, ap, ◌∙◌, subst, arith}
use Rattle.source.specs.declared.fault.Fault.{Fault}
use Rattle.source.specs.Faults.{number_of}
use Rattle.ledger.specs.Ledger.{fresh, opening_refusal}
use Rattle.script.specs.declared.mark.Mark.TheVariants as mark
use Rattle.script.specs.Lines as line
use Rattle.script.specs.Lines.{Answered, rendered, Put}
use Rattle.script.specs.Drawn.{records_left}
use Rattle.script.specs.Records.{Record, opening, before, meaning}
use Rattle.runner.specs.declared.run.Ran.{Ran}
use Rattle.runner.specs.Sessions.{slot_count, answers, begun, first, session, printed}
use Rattle.runner.specs.Runs.{fault_of, Wrote, Carries, Begins}
use Rattle.runner.proofs.Carries.{behind, wrote_none, printed-more, printed-full}

module _ (script : List ℕ) (at : ℕ) (next : Option ℕ) (d : List ℕ) where
  -- the first record decides what comes of it
  begins_with : (found : Record) (o : List ℕ) (r : Ran) → meaning script ≡ before at found (records_left script next)
      → ((rest : List (ℕ × Record)) → records_left script next ≡ Ok rest → Wrote d 0 (printed (length d - 0) (first at found rest)) o r)
      → Begins script d o r
  begins_with found o r is then records whole =
      let parts = behind at found (records_left script next) records (sym is ∙ whole) in
      let room : length d - 0 ≡ length d = omega arith in
      let lines = subst (λ n. Wrote d 0 (printed n (first at found parts.0)) o r) room (then parts.0 parts.1) in
      subst (λ rs. Wrote d 0 (printed (length d) (session rs)) o r) (sym parts.2) lines

  module _ (size : ℕ) (is : meaning script ≡ before at (opening size) (records_left script next)) where
    module _ (granted : opening_refusal 0 size slot_count ≡ None) where
      -- an opening with its line, and the records behind it
      pub begins_opened : (o o' : List ℕ) (end : ℕ) (r : Ran) → Put d 0 (rendered (line.opened size)) o (Ok end)
          → Carries script next (fresh 0 size slot_count) o end o' r → Begins script d o' r
      begins_opened o o' end r put more =
          begins_with (opening size) o' r is
          (λ rest e. subst (λ refusal. Wrote d 0 (printed (length d - 0) (begun refusal at size rest)) o' r) (sym granted)
          (printed-more d o o' 0 end at (line.opened size) (answers (fresh 0 size slot_count) rest) r (omega arith) put (more rest e)))

    module _ (number : ℕ) (denied : opening_refusal 0 size slot_count ≡ Some number) where
      -- a refused opening has its line, and nothing comes after it
      pub begins_refused : (o : List ℕ) (end : ℕ) (r : Ran) → Put d 0 (rendered (line.refused mark.Opening number)) o (Ok end)
          → r.written ≡ end → fault_of r.fault ≡ None → Begins script d o r
      begins_refused o end r put all told =
          begins_with (opening size) o r is
          (λ rest e. subst (λ refusal. Wrote d 0 (printed (length d - 0) (begun refusal at size rest)) o r) (sym denied)
          (printed-more d o o 0 end at (line.refused mark.Opening number) [] r (omega arith) put (wrote_none o end r all told)))

      pub begins_refused_full : (o : List ℕ) (fault : Fault) (r : Ran) → Put d 0 (rendered (line.refused mark.Opening number)) o (Err fault)
          → r.written ≡ 0 → fault_of r.fault ≡ Some (number_of fault, at) → Begins script d o r
      begins_refused_full o fault r put end told =
          begins_with (opening size) o r is
          (λ rest e. subst (λ refusal. Wrote d 0 (printed (length d - 0) (begun refusal at size rest)) o r) (sym denied)
          (printed-full d o 0 at (line.refused mark.Opening number) [] fault r (omega arith) put end told))

pub refusal-from : (start size : ℕ) (answer : Option ℕ) → start ≡ 0 → opening_refusal start size slot_count ≡ answer → opening_refusal 0 size slot_count ≡ answer
refusal-from start size answer zero is = ap (λ n. opening_refusal n size slot_count) (sym zero) ∙ is

pub fresh-from : (start i s n size : ℕ) → start ≡ 0 → i ≡ start → s ≡ size → n ≡ slot_count → fresh {E = ℕ} i s n ≡ fresh 0 size slot_count
fresh-from start i s n size zero first same all = cc
