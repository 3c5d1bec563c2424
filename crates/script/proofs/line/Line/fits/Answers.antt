use Rattle.std.proofs.Common.{◌+◌, ◌++◌, length, decimal, ap, ◌∙◌, arith}
use Rattle.source.specs.Faults.{number_of}
use Rattle.script.specs.Lines.{opened, registered, would_write, wrote, handed, closed, refused, shown, spaced}
use Rattle.script.proofs.Fields.{fits_line, fits_told, length-flag, length-wrote, length-handed, length-refused}
use Rattle.script.proofs.line.Line.fits.Goals as goal

pub returns-in-Opened : goal.returns-in-Opened
returns-in-Opened c = fits_line c.args.self (opened c.in-Opened.size) (4 + c.digits.result) c.args.room (ap shown c.in-Opened.is) (omega arith)

pub returns-in-Registered : goal.returns-in-Registered
returns-in-Registered c = fits_line c.args.self (registered c.in-Registered.reader) (4 + c.digits-in-Registered.result) c.args.room (ap shown c.in-Registered.is) (omega arith)

pub returns-in-WouldWrite : goal.returns-in-WouldWrite
returns-in-WouldWrite c =
    let one = length-flag c.in-WouldWrite.field-0 in
    fits_line c.args.self (would_write c.in-WouldWrite.field-0) 5 c.args.room (ap shown c.in-WouldWrite.is) (omega arith)

pub returns-in-Wrote : goal.returns-in-Wrote
returns-in-Wrote c =
    let long = length-wrote c.in-Wrote.count c.in-Wrote.size in
    fits_line c.args.self (wrote c.in-Wrote.count c.in-Wrote.size) (5 + c.digits-in-Wrote.result + c.digits-in-Wrote-2.result) c.args.room (ap shown c.in-Wrote.is) (omega arith)

pub returns-in-Handed : goal.returns-in-Handed
returns-in-Handed c =
    let first = c.in-Handed.first.now in
    let second = c.in-Handed.second.now in
    let long = length-handed c.in-Handed.reader first second in
    fits_told c.args.self (handed c.in-Handed.reader (first ++ second)) (5 + c.digits-in-Handed.result + (length (spaced first) + length (spaced second))) c.args.room c.is_some.result (c.is_some.ensures ∙ c.room_after_runs.ensures) (ap shown c.in-Handed.is) (omega arith)

pub returns-in-Closed : goal.returns-in-Closed
returns-in-Closed c = fits_line c.args.self (closed c.in-Closed.reader) (4 + c.digits-in-Closed.result) c.args.room (ap shown c.in-Closed.is) (omega arith)

pub returns-in-Refused : goal.returns-in-Refused
returns-in-Refused c =
    let long = length-refused c.in-Refused.mark (number_of c.in-Refused.fault) in
    let same = ap (λ n. length (decimal n)) c.number.ensures in
    fits_line c.args.self (refused c.in-Refused.mark (number_of c.in-Refused.fault)) (7 + c.digits-in-Refused.result) c.args.room (ap shown c.in-Refused.is) (omega arith)
