use Rattle.script.proofs.Tells.{one_feed, line_tells, lines_tell}
use Rattle.script.proofs.line.lines_tell_answers.Goals as goal

pub returns : goal.returns
returns c = record { feed = one_feed; one = line_tells; all = lines_tell }
