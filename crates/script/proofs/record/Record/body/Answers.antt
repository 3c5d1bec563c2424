use Rattle.std.proofs.Common.{◌≡◌, sym, ap, ◌∙◌, arith}
use Rattle.script.specs.Parsed.{meant}
use Rattle.script.specs.Records.{whole, size_of}
use Rattle.script.proofs.Bodies.{body-whole, opening-whole, write-whole}
use Rattle.script.proofs.record.Record.body.Goals as goal
use Rattle.script.proofs.record.Record.body.Goals.{in-Opening, in-Register, in-WouldWrite, in-Write, in-Read, in-Close}

pub returns : goal.returns
returns c =
    let bs = c.args.bytes.now in
    let same : meant c.match-mark.record ≡ whole c.args.mark bs =
    elim c.match-mark.branch [
      | in-Opening w ↦
          let four = ap (λ m. size_of m bs) w.in-Opening.is in
          ap meant w.record-is ∙ opening-whole c.args.mark bs w.from_be_bytes.result w.in-Opening.is (omega arith) w.from_be_bytes.ensures
      | in-Register w ↦ ap meant w.record-is ∙ sym (ap (λ m. whole m bs) w.in-Register.is)
      | in-WouldWrite w ↦ ap meant w.record-is ∙ sym (ap (λ m. whole m bs) w.in-WouldWrite.is)
      | in-Write w ↦ ap meant w.record-is ∙ write-whole c.args.mark bs c.size-size.result w.in-Write.is c.size-size.ensures
      | in-Read w ↦ ap meant w.record-is ∙ sym (ap (λ m. whole m bs) w.in-Read.is)
      | in-Close w ↦ ap meant w.record-is ∙ sym (ap (λ m. whole m bs) w.in-Close.is)
    ] in
    body-whole c.args.mark bs c.size-size.result (meant c.match-mark.record) c.size-size.ensures c.if-bytes-size.false same
