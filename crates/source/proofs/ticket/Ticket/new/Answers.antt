use Rattle.std.proofs.Common.{arith}
use Rattle.std.proofs.lemmas.Grind.{common_steps}
use Rattle.source.proofs.LegLemmas.{legs_counted}
use Rattle.source.proofs.ticket.Ticket.new.Goals as goal

pub returns : goal.returns
returns c = grind (arith, common_steps, legs_counted)
