use Rattle.std.proofs.Common.{◌≡◌, ◌++◌, length, codes, decimal, sym, ap, subst, ◌∙◌, arith, length-append}
use Rattle.script.specs.Lines.{fields, shown}
use Rattle.script.specs.Written.{Writes}
use Rattle.script.proofs.Fields.{wrote-long, handed-long, handed-text}
use Rattle.script.proofs.Writing.{writes-long, writes_then, writes_more}
use Rattle.script.proofs.line.Line.put_fields.Goals as goal

pub events-requires : goal.events-requires
events-requires c =
    let long = handed-long c.args.self c.in-Handed.reader c.in-Handed.first c.in-Handed.second c.in-Handed.is in
    let one = writes-long _ _ _ (omega (arith, long)) c.number-in-Handed.ensures in
    let two = writes-long _ _ _ (omega (arith, long, one, c.number-in-Handed.ensures.at)) c.byte-in-Handed.ensures in
    omega (arith, long, one, two, c.number-in-Handed.ensures.at, c.byte-in-Handed.ensures.at)

pub events-requires-in-Handed : goal.events-requires-in-Handed
events-requires-in-Handed c =
    let long = handed-long c.args.self c.in-Handed.reader c.in-Handed.first c.in-Handed.second c.in-Handed.is in
    let one = writes-long _ _ _ (omega (arith, long)) c.number-in-Handed.ensures in
    let two = writes-long _ _ _ (omega (arith, long, one, c.number-in-Handed.ensures.at)) c.byte-in-Handed.ensures in
    let three = writes-long _ _ _ (omega (arith, long, one, two, c.number-in-Handed.ensures.at, c.byte-in-Handed.ensures.at)) c.events.ensures in
    omega (arith, long, one, two, three, c.number-in-Handed.ensures.at, c.byte-in-Handed.ensures.at, c.events.ensures.at)

pub returns-in-Wrote : goal.returns-in-Wrote
returns-in-Wrote c =
    let long = wrote-long c.args.self c.in-Wrote.count c.in-Wrote.size c.in-Wrote.is in
    rw c.in-Wrote.is (writes_more _ _ _ _ _ _ 32 (omega (arith, long)) c.number-in-Wrote.ensures c.byte.ensures c.number-in-Wrote-2.ensures)

pub returns-in-Handed : goal.returns-in-Handed
returns-in-Handed c =
    let long = handed-long c.args.self c.in-Handed.reader c.in-Handed.first c.in-Handed.second c.in-Handed.is in
    let begun = writes_more _ _ _ _ _ _ 58 (omega (arith, long)) c.number-in-Handed.ensures c.byte-in-Handed.ensures c.events.ensures in
    let all = writes_then _ _ _ _ _ (simp length-append (omega (arith, long))) begun c.events-in-Handed.ensures in
    rw c.in-Handed.is (subst (Writes c.args.cursor.now c.events-in-Handed.new.self) (handed-text c.in-Handed.reader c.in-Handed.first.now c.in-Handed.second.now) all)

pub returns-in-Refused : goal.returns-in-Refused
returns-in-Refused c =
    let text : fields (shown c.args.self) ≡ codes "no " ++ decimal c.number-in-Refused.result = ap (λ l. fields (shown l)) c.in-Refused.is ∙ sym (ap (λ n. codes "no " ++ decimal n) c.number-in-Refused.ensures) in
    let long = ap length text in
    let wrote = writes_then _ _ _ (codes "no ") (decimal c.number-in-Refused.result) (omega (arith, long)) c.text.ensures (subst (λ n. Writes c.text.new.self c.number-in-Refused-2.new.self (decimal n)) c.from-in-Refused.ensures c.number-in-Refused-2.ensures) in
    subst (Writes c.args.cursor.now c.number-in-Refused-2.new.self) (sym text) wrote
