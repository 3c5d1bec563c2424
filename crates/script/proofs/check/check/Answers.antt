use Rattle.std.proofs.Common.{ap, ◌∙◌}
use Rattle.std.specs.Result.{result_err}
use Rattle.std.proofs.lemmas.Result.{err_from_is_err_and}
use Rattle.source.specs.Faults.{number_of}
use Rattle.script.specs.Records.{meaning}
use Rattle.script.proofs.Rests.{fault-before, fails}
use Rattle.script.proofs.Draws.{record-given, fault-given}
use Rattle.script.proofs.check.check.Goals as goal

pub loop-record-preserved : goal.loop-record-preserved
loop-record-preserved c =
    let was = c.loop-record.invariant in
    let rest = record-given c.args.script.now c.loop-record.record-iterator c.next.new.self was.script c.in-Some.record c.in-Some.ensures.steps c.in_ok-record.field-0 c.in_ok-record.was was.within in
    record {
      can = tt;
      ends = tt;
      script = cc;
      within = rest.0;
      fault = was.fault ∙ (ap result_err rest.1 ∙ fault-before _ _ _);
    }

pub returns-in_err-record : goal.returns-in_err-record
returns-in_err-record c =
    let was = c.loop-record.invariant in
    let found = c.in_err-record.field-0.0 in
    let p = err_from_is_err_and c.from_residual.result c.from_residual.ensures.1 in
    let rest = fault-given c.args.script.now c.loop-record.record-iterator c.next.new.self was.script c.in-Some.record c.in-Some.ensures.steps found c.in_err-record.was was.within in
    rw (p.1, p.2) (fails (meaning c.args.script.now) (number_of found.fault, found.at) (was.fault ∙ ap result_err rest))
