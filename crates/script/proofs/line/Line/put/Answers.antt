use Rattle.std.proofs.Common.{rules, ◌≡◌, ◌-◌, [], ◌∷◌, ◌++◌, length, sym, ap, subst, append_assoc, ◌∙◌, arith, length-append}
use Rattle.std.proofs.lemmas.Bool.{leb-true}
use Rattle.script.specs.Marks.{letters}
use Rattle.script.specs.Lines.{answering, fields, rendered, shown}
use Rattle.script.specs.Written.{Writes}
use Rattle.script.proofs.Fields.{length-letters, length-line}
use Rattle.script.proofs.Writing.{writes_then, writes_more}
use Rattle.script.proofs.line.Line.put.Goals as goal

pub returns : goal.returns
returns c =
    let room = leb-true (length (rendered (shown c.args.self))) (length c.args.out.now - c.args.at) (sym c.fits.ensures ∙ c.if-not-fits.false) in
    let long = length-line (answering (shown c.args.self)) (fields (shown c.args.self)) in
    let two = ap length c.letters.ensures ∙ length-letters c.mark.result in
    let front = writes_more _ _ _ _ _ _ 32 (omega (arith, two, long, room)) c.text.ensures c.byte.ensures c.put_fields.ensures in
    let all = writes_then _ _ _ _ _ (simp length-append (omega (arith, two, long, room))) front c.byte-2.ensures in
    let text : (c.letters.result.now ++ (32 ∷ fields (shown c.args.self))) ++ (10 ∷ []) ≡ rendered (shown c.args.self) =
    append_assoc c.letters.result.now (32 ∷ fields (shown c.args.self)) (10 ∷ [])
    ∙ ap (λ ls. ls ++ (32 ∷ (fields (shown c.args.self) ++ (10 ∷ [])))) (c.letters.ensures ∙ ap letters c.mark.ensures) in
    let whole = subst (Writes _ c.byte-2.new.self) text all in
    let same = sym whole.same in
    let out = whole.out in
    (whole.at, omega (arith, whole.at, room), search rules)
