use Rattle.std.proofs.Common.{ap, sym, ◌∙◌}
use Rattle.std.proofs.lemmas.Result.{err_from_is_err_and}
use Rattle.source.specs.Faults.{number_of}
use Rattle.script.specs.Records.{marked}
use Rattle.script.proofs.Starts.{cut, placed, told-mark, told-fault, start-short}
use Rattle.script.proofs.record.Record.read.Goals as goal

pub returns-in_err-try_from : goal.returns-in_err-try_from
returns-in_err-try_from c =
    let script = c.args.script.now in
    let bytes = cut script c.min.result in
    let p = err_from_is_err_and c.from_residual.result c.from_residual.ensures.1 in
    rw (p.1, p.2)
    (told-fault _ bytes _ (number_of c.in_err-try_from.field-0.0) (start-short bytes c.min-2.result c.min-2.ensures) c.in_err-try_from.ensures
    ∙ placed script c.args.at c.min.result c.min-2.result c.eq-opens.result c.min.ensures c.min-2.ensures c.as_slice.result.now c.as_slice.ensures c.eq-opens.ensures c.if-opens-at.false)

pub returns : goal.returns
returns c =
    let script = c.args.script.now in
    let bytes = cut script c.min.result in
    c.body.ensures
    ∙ (ap (λ m. marked m bytes) (sym (told-mark _ _ c.in_ok-try_from.field-0 c.in_ok-try_from.ensures))
    ∙ placed script c.args.at c.min.result c.min-2.result c.eq-opens.result c.min.ensures c.min-2.ensures c.as_slice.result.now c.as_slice.ensures c.eq-opens.ensures c.if-opens-at.false)
