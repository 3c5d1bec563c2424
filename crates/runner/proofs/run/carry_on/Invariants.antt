use Rattle.std.proofs.Common.{◌≡◌, ◌≤◌, List, ℕ, length}
use Rattle.script.proofs.Draws.{Within}
use Rattle.runner.specs.Calls.{ledger_in}
use Rattle.runner.specs.declared.run.Ran.{Ran}
use Rattle.runner.specs.Runs.{Carries}
use Rattle.runner.proofs.run.carry_on.Given as goal

-- whatever carries out the rest carries out the whole
abbrev pub invariant-loop-found : goal.invariant-loop-found
invariant-loop-found l =
    record {
      can : (goal.iterator-loop-found).can_next l.found-iterator;
      ends : (goal.iterator-loop-found).is_finite l.found-iterator;
      script : l.found-iterator.script.now ≡ l.initial.found-iterator.script.now;
      within : Within l.initial.found-iterator.script.now l.found-iterator.next;
      room : l.written ≤ length l.out;
      rest : (after : List ℕ) (r : Ran)
          → Carries l.initial.found-iterator.script.now l.found-iterator.next (ledger_in l.session) l.out l.written after r
          → Carries l.initial.found-iterator.script.now l.initial.found-iterator.next (ledger_in l.initial.session) l.initial.out l.initial.written after r;
    }
