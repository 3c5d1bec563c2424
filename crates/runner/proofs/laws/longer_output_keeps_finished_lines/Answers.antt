use Rattle.runner.proofs.Telling.{longer_keeps}
use Rattle.runner.proofs.laws.longer_output_keeps_finished_lines.Goals as goal

pub returns : goal.returns
returns c = longer_keeps
