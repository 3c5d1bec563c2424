use Rattle.std.proofs.Common.{rules, ◌≡◌, ℕ, List, ap, arith, Some, None, refl, subst}
use Rattle.std.proofs.lemmas.Result.{err_from_is_err_and}
use Rattle.source.specs.Faults.{number_of}
use Rattle.script.proofs.Draws.{Within, record-given, fault-given, none-given}
use Rattle.script.specs.Parsed.{meant}
use Rattle.runner.specs.Calls.{ledger_in}
use Rattle.script.specs.Lines.{rendered, Put}
use Rattle.runner.specs.Runs.{Carries}
use Rattle.runner.specs.Sessions.{answered}
use Rattle.runner.specs.declared.run.Ran.{Ran}
use Rattle.runner.proofs.Carries.{begun_at, Placed, placed-ok, placed-err, carries_none, carries_more, carries_full, carries_fault}
use Rattle.ledger.specs.Ledger.{fresh}
use Rattle.script.specs.Drawn.{records_left}
use Rattle.script.specs.Records.{before}
use Rattle.runner.proofs.run.carry_on.Goals as goal
use Rattle.runner.proofs.run.carry_on.Goals.{In_ok-at, At-loop-found}

-- the record drawn stands before those that are left
drawn : (c : In_ok-at) → Within c.into_iter-found-iterator.result.script.now c.next.new.self.next
    × (records_left c.into_iter-found-iterator.result.script.now c.loop-found.found-iterator.next ≡ before c.in_ok-at.at (meant c.in_ok-at.record) (records_left c.into_iter-found-iterator.result.script.now c.next.new.self.next))
drawn c =
    let was = c.loop-found.invariant in
    record-given c.into_iter-found-iterator.result.script.now c.loop-found.found-iterator c.next.new.self was.script c.in-Some.found c.in-Some.ensures.steps (c.in_ok-at.at, c.in_ok-at.record) c.in_ok-at.was was.within

-- what carries out the rest carries out the whole
whole : (c : At-loop-found) (o : List ℕ) (r : Ran)
    → Carries c.into_iter-found-iterator.result.script.now c.loop-found.found-iterator.next (ledger_in c.loop-found.session) c.loop-found.out c.loop-found.written o r
    → Carries c.args.records.script.now c.args.records.next (fresh c.args.grant.instance c.args.grant.size c.args.grant.slots) c.args.out.now c.args.written.now o r
whole c o r rest =
    begun_at c.args.records c.into_iter-found-iterator.result _ _ _ _ _ _ c.into_iter-found-iterator.ensures.into_iter_gives c.new-session.ensures (c.loop-found.invariant.rest o r rest)

pub loop-found-init : goal.loop-found-init
loop-found-init c =
    record {
      can = tt;
      ends = tt;
      script = cc;
      within = rw c.into_iter-found-iterator.ensures.into_iter_gives c.requires.within;
      room = c.requires.room;
      rest = λ after r whole. whole;
    }

pub returns-in_err-at : goal.returns-in_err-at
returns-in_err-at c =
    let was = c.loop-found.invariant in
    let script = c.into_iter-found-iterator.result.script.now in
    let found = c.in_err-at.field-0.0 in
    let p = err_from_is_err_and c.from_residual.result c.from_residual.ensures.1 in
    let r : Ran = record { written = c.loop-found.written; fault = Some found } in
    let left = fault-given script c.loop-found.found-iterator c.next.new.self was.script c.in-Some.found c.in-Some.ensures.steps found c.in_err-at.was was.within in
    let rest = carries_fault script c.loop-found.found-iterator.next (ledger_in c.loop-found.session) c.loop-found.out c.loop-found.written (number_of found.fault, found.at) c.loop-found.out r left in
    rw (p.1, p.2) (whole (goal.at.returns-in_err-at c).At-loop-found c.loop-found.out r rest)

pub returns-in_err-end : goal.returns-in_err-end
returns-in_err-end c =
    let was = c.loop-found.invariant in
    let script = c.into_iter-found-iterator.result.script.now in
    let found = c.in_err-end.field-0.0 in
    let placed : Placed c.in_ok-at.at c.step.result c.map_err.result = search rules in
    let full = placed-err c.in_ok-at.at c.step.result c.map_err.result found placed c.in_err-end.was in
    let p = err_from_is_err_and c.from_residual-in_err-end.result c.from_residual-in_err-end.ensures.1 in
    let r : Ran = record { written = c.loop-found.written; fault = Some found } in
    let l = ledger_in c.loop-found.session in
    let record' = meant c.in_ok-at.record in
    let left = drawn (goal.at.returns-in_err-end c).In_ok-at in
    let put = subst (λ e. Put c.loop-found.out c.loop-found.written (rendered (answered l record').0) c.step.new.out e) full.0 c.step.ensures.line in
    let told = ap (λ n. Some (number_of found.fault, n)) full.1 in
    let rest = carries_full script c.loop-found.found-iterator.next l c.loop-found.out c.loop-found.written c.in_ok-at.at record' c.next.new.self.next was.room left.1 c.step.new.out found.fault r put refl told in
    rw (p.1, p.2) (whole (goal.at.returns-in_err-end c).At-loop-found c.step.new.out r rest)

pub loop-found-preserved : goal.loop-found-preserved
loop-found-preserved c =
    let was = c.loop-found.invariant in
    let script = c.into_iter-found-iterator.result.script.now in
    let placed : Placed c.in_ok-at.at c.step.result c.map_err.result = search rules in
    let end = c.in_ok-end.end in
    let l = ledger_in c.loop-found.session in
    let record' = meant c.in_ok-at.record in
    let left = drawn (goal.at.loop-found-preserved c).In_ok-at in
    let put = subst (λ e. Put c.loop-found.out c.loop-found.written (rendered (answered l record').0) c.step.new.out e) (placed-ok c.in_ok-at.at c.step.result c.map_err.result end placed c.in_ok-end.was) c.step.ensures.line in
    let fits = put.1 in
    let wide = c.step.auto.out in
    record {
      can = tt;
      ends = tt;
      script = cc;
      within = left.0;
      room = omega arith;
      rest =
          λ after r more.
          was.rest after r
          (carries_more script c.loop-found.found-iterator.next l c.loop-found.out c.loop-found.written c.in_ok-at.at record' c.next.new.self.next was.room left.1
          c.step.new.out after end r put
          (subst (λ k. Carries script c.next.new.self.next k c.step.new.out end after r) c.step.ensures.ledger more));
    }

pub returns : goal.returns
returns c =
    let was = c.loop-found.invariant in
    let script = c.into_iter-found-iterator.result.script.now in
    let r : Ran = record { written = c.loop-found.written; fault = None } in
    let none = none-given script c.loop-found.found-iterator c.next.new.self was.script c.in-None.ensures.steps in
    let rest = carries_none script c.loop-found.found-iterator.next (ledger_in c.loop-found.session) c.loop-found.out c.loop-found.written r none refl refl in
    whole (goal.at.returns c).At-loop-found c.loop-found.out r rest
