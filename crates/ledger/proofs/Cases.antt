-- The known answers, worked out. Assumes nothing.
use Rattle.std.proofs.Common.{List, [], ◌∷◌, ◌++◌, refl}
use Rattle.ledger.specs.Ledger.{doubled, size_for}
use Rattle.ledger.specs.Cases.{Case, Holds, KnownAnswers}

pub known_answers : KnownAnswers
unfolding size_for doubled
known_answers = (refl, (refl, (refl, (refl, (refl, (refl, (refl, (refl, tt))))))))

-- a list of cases that goes on with others
pub holds_append : (cs ds : List Case) → Holds cs → Holds ds → Holds (cs ++ ds)
holds_append [] ds h k = k
holds_append (c ∷ cs) ds h k = (h.0, holds_append cs ds h.1 k)
