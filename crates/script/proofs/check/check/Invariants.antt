use Rattle.std.proofs.Common.{◌≡◌}
use Rattle.std.specs.Result.{result_err}
use Rattle.script.specs.Drawn.{records_left}
use Rattle.script.specs.Records.{meaning}
use Rattle.script.proofs.Draws.{Within}
use Rattle.script.proofs.check.check.Given as goal

-- the fault of the whole, if any, is still to come
abbrev pub invariant-loop-record : goal.invariant-loop-record
invariant-loop-record l =
    record {
      can : (goal.iterator-loop-record).can_next l.record-iterator;
      ends : (goal.iterator-loop-record).is_finite l.record-iterator;
      script : l.record-iterator.script.now ≡ l.script;
      within : Within l.script l.record-iterator.next;
      fault : result_err (meaning l.script) ≡ result_err (records_left l.script l.record-iterator.next);
    }
