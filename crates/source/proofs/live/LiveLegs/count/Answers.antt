use Rattle.std.proofs.Common.{rules, tests, cond, sym, ◌∙◌}
use Rattle.std.proofs.lemmas.Iterator.{YieldsList-from_slice, YieldsList-from_map}
use Rattle.std.proofs.lemmas.Iterator.Consumers.{sum_by_from_yields_List}
use Rattle.std.proofs.lemmas.List.Sums.{length-filter}
use Rattle.source.specs.Legs.{live}
use Rattle.source.proofs.live.LiveLegs.count.Goals as goal

pub returns : goal.returns
returns c =
    let legs = c.args.self.now.rest.now in
    let p = live c.args.self.now.today in
    let ones = YieldsList-from_map _ (λ l. cond (p l) 1 0) (YieldsList-from_slice legs cc) c.map-ones.ensures.closure (λ x r q k. search (rules, tests)) in
    sum_by_from_yields_List (λ l. cond (p l) 1 0) legs c.map-ones.result c.sum.result c.sum.ensures.ran ones ∙ sym (length-filter p legs)
