use Rattle.std.proofs.Common.{rules, sym, arith}
use Rattle.script.proofs.Draws.{fewer-left}
use Rattle.script.proofs.Rests.{sized_of}
use Rattle.script.proofs.records.RecordsIterator.next.Goals as goal

pub overflow_add-end : goal.overflow_add-end
overflow_add-end c = let size = sized_of c.args.self.now.script.now c.in_ok-at.at _ (sym c.in-Ok.ensures) in omega arith

pub returns-in-Ok-clause-goes : goal.returns-in-Ok-clause-goes
returns-in-Ok-clause-goes c =
    let size = sized_of c.args.self.now.script.now c.in_ok-at.at _ (sym c.in-Ok.ensures) in
    let fewer = fewer-left c.args.self.now.script.now c.in_ok-at.at c.in-Ok.size size.0 size.1 in
    search rules
