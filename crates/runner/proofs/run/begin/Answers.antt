use Rattle.std.proofs.Common.{rules, Bor, List, ◌≡◌, ℕ, Some, None, sym, refl, ap, subst, ◌∙◌, arith}
use Rattle.std.specs.Result.{result_err}
use Rattle.std.proofs.lemmas.Result.{err_from_is_err_and}
use Rattle.source.specs.Faults.{number_of}
use Rattle.script.specs.declared.mark.Mark.TheVariants as mark
use Rattle.script.specs.Drawn.{records_left}
use Rattle.script.specs.Lines as line
use Rattle.script.specs.Lines.{rendered, Put}
use Rattle.script.specs.Parsed.{meant}
use Rattle.script.specs.Records.{opening, before, meaning}
use Rattle.script.proofs.Draws.{Within, record-given}
use Rattle.runner.specs.declared.run.Ran.{Ran}
use Rattle.ledger.specs.Ledger.{fresh}
use Rattle.runner.specs.Sessions.{slot_count}
use Rattle.runner.specs.Runs.{Carries}
use Rattle.runner.proofs.Begins.{begins_opened, begins_refused, begins_refused_full, refusal-from, fresh-from}
use Rattle.runner.proofs.Carries.{Placed, placed-ok, placed-err}
use Rattle.runner.proofs.Printing.{ends_of}
use Rattle.runner.proofs.run.begin.Goals as goal
use Rattle.runner.proofs.run.begin.Goals.{In-Opening}

-- what the first record, an opening, says of the whole script
opened : (c : In-Opening) (size : ℕ) → size ≡ c.in-Opening.size
    → meaning c.args.script.now ≡ before c.in_ok-at.at (opening size) (records_left c.args.script.now c.next.new.self.next)
opened c size same =
    let script = c.args.script.now in
    let start = c.new-records.ensures.next in
    let within = subst (Within script) (sym start) (omega arith) in
    let left = record-given script c.new-records.result c.next.new.self c.new-records.ensures.script c.in-Some.first c.in-Some.ensures.steps (c.in_ok-at.at, c.in_ok-at.opening) c.in_ok-at.was within in
    ap (records_left script) (sym start)
    ∙ (left.1 ∙ ap (λ r. before c.in_ok-at.at r (records_left script c.next.new.self.next)) (ap meant c.in-Opening.is ∙ ap opening (sym same)))

pub returns-in_err-written-in-Err : goal.returns-in_err-written-in-Err
returns-in_err-written-in-Err c =
    let script = c.args.script.now in
    let size = c.from-size.result in
    let found = c.in_err-written-in-Err.field-0.0 in
    let number = number_of c.in-Err.fault in
    let placed : Placed c.in_ok-at.at c.put-in-Err.result c.map_err-in-Err.result = search rules in
    let full = placed-err c.in_ok-at.at c.put-in-Err.result c.map_err-in-Err.result found placed c.in_err-written-in-Err.was in
    let p = err_from_is_err_and c.from_residual-in_err-written-in-Err.result c.from_residual-in_err-written-in-Err.ensures.1 in
    let r : Ran = record { written = c.args.written.now; fault = Some found } in
    let put = subst (λ e. Put c.args.out.now 0 (rendered (line.refused mark.Opening number)) c.put-in-Err.new.out e) full.0 c.put-in-Err.ensures in
    let denied = refusal-from c.new.result.next size (Some number) c.new.ensures c.in-Err.ensures.refusal in
    let begins = begins_refused_full script c.in_ok-at.at c.next.new.self.next c.args.out.now size (opened (goal.at.returns-in_err-written-in-Err c).In-Opening size c.from-size.ensures) number denied c.put-in-Err.new.out found.fault r put c.requires (ap (λ n. Some (number_of found.fault, n)) full.1) in
    rw (p.1, p.2) (ends_of (meaning script) c.args.out.now c.put-in-Err.new.out r c.in_ok-check.ensures begins)

pub returns-in_ok-written-in-Ok : goal.returns-in_ok-written-in-Ok
returns-in_ok-written-in-Ok c =
    let script = c.args.script.now in
    let size = c.from-size.result in
    let end = c.in_ok-written-in-Ok.field-0 in
    let granted = c.in-Ok.ensures in
    let placed : Placed c.in_ok-at.at c.put.result c.map_err.result = search rules in
    let r : Ran = record { written = c.carry_on.new.written; fault = result_err c.carry_on.result } in
    let put = subst (λ e. Put c.args.out.now 0 (rendered (line.opened size)) c.put.new.out e) (placed-ok c.in_ok-at.at c.put.result c.map_err.result end placed c.in_ok-written-in-Ok.was) c.put.ensures in
    let same : c.next.new.self.script.now ≡ script = ap (λ (s : Bor (List ℕ)). s.now) c.in-Some.ensures.steps.script ∙ c.new-records.ensures.script in
    let more = subst (λ l. Carries c.next.new.self.script.now c.next.new.self.next l c.put.new.out end c.carry_on.new.out r) (fresh-from c.new.result.next _ _ _ size c.new.ensures granted.instance granted.size granted.slots) c.carry_on.ensures in
    let begins = begins_opened script c.in_ok-at.at c.next.new.self.next c.args.out.now size (opened (goal.at.returns-in_ok-written-in-Ok c).In-Opening size c.from-size.ensures) (refusal-from c.new.result.next size None c.new.ensures granted.unrefused) c.put.new.out c.carry_on.new.out end r put (subst (λ s. Carries s c.next.new.self.next (fresh 0 size slot_count) c.put.new.out end c.carry_on.new.out r) same more) in
    ends_of (meaning script) c.args.out.now c.carry_on.new.out r c.in_ok-check.ensures begins

pub returns-in_ok-written-in-Err : goal.returns-in_ok-written-in-Err
returns-in_ok-written-in-Err c =
    let script = c.args.script.now in
    let size = c.from-size.result in
    let end = c.in_ok-written-in-Err.field-0 in
    let number = number_of c.in-Err.fault in
    let placed : Placed c.in_ok-at.at c.put-in-Err.result c.map_err-in-Err.result = search rules in
    let r : Ran = record { written = end; fault = None } in
    let put = subst (λ e. Put c.args.out.now 0 (rendered (line.refused mark.Opening number)) c.put-in-Err.new.out e) (placed-ok c.in_ok-at.at c.put-in-Err.result c.map_err-in-Err.result end placed c.in_ok-written-in-Err.was) c.put-in-Err.ensures in
    let denied = refusal-from c.new.result.next size (Some number) c.new.ensures c.in-Err.ensures.refusal in
    let begins = begins_refused script c.in_ok-at.at c.next.new.self.next c.args.out.now size (opened (goal.at.returns-in_ok-written-in-Err c).In-Opening size c.from-size.ensures) number denied c.put-in-Err.new.out end r put refl refl in
    ends_of (meaning script) c.args.out.now c.put-in-Err.new.out r c.in_ok-check.ensures begins
