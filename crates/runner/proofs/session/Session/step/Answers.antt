use Rattle.std.proofs.Common.{rules}
use Rattle.runner.proofs.session.Session.step.Goals as goal

pub returns-in-WouldWrite-clause-line : goal.returns-in-WouldWrite-clause-line
returns-in-WouldWrite-clause-line c =
    let flag = c.would_write.ensures c.args.self.now.slots in
    search rules
