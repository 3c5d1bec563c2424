use Rattle.std.proofs.Common.{List, Option, sym, subst, arith}
use Rattle.storage.specs.declared.reader.Reader.{Reader}
use Rattle.storage.specs.Registry.{Each}
use Rattle.storage.proofs.Each.{Fine, facts, nobody-fine}
use Rattle.storage.proofs.ring.RingBuffer.new.Goals as goal

pub invariant_of-result : goal.invariant_of-result
invariant_of-result g c =
    let last = c.at_end.result in
    facts c.args.grant.size last.index last.size c.args.grant.slots 0 c.new.result.readers (omega arith) (omega arith) (omega arith) (omega arith)
    (subst (λ (rs : List (Option Reader)). Each (Fine last.index last.size 0 c.args.grant.size) rs) (sym c.new.ensures.readers_are) (nobody-fine last.index last.size 0 c.args.grant.size))
