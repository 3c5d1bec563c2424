use Rattle.runner.proofs.Telling.{text_tells}
use Rattle.runner.proofs.laws.equal_output_means_equal_answers.Goals as goal

pub returns : goal.returns
returns c = text_tells
