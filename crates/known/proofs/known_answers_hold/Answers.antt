use mathlib.Core.Path.{refl}
use Rattle.ledger.specs.Cases.{known_cases}
use Rattle.ledger.proofs.Cases.{known_answers, holds_append}
use Rattle.known.specs.Answers.{ticket_cases}
use Rattle.known.proofs.known_answers_hold.Goals as goal

pub returns : goal.returns
returns c = holds_append known_cases ticket_cases known_answers (refl, (refl, tt))
