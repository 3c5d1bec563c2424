use Rattle.std.proofs.Common.{arith}
use Rattle.std.proofs.lemmas.Grind.{common_steps}
use Rattle.source.proofs.LegLemmas.{filter-first, filter-none}
use Rattle.source.proofs.live.LiveLegs.draw.Goals as goal

pub returns-in_err-at-clause-first : goal.returns-in_err-at-clause-first
returns-in_err-at-clause-first c = grind (arith, common_steps, filter-none)

pub returns-clause-first : goal.returns-clause-first
returns-clause-first c = grind (arith, common_steps, filter-first)
