use Rattle.script.proofs.Words.{length-numbers}
use Rattle.script.proofs.record.NumbersSourceNumber.len.Goals as goal

pub returns : goal.returns
returns c = length-numbers c.args.self.now.bytes.now
