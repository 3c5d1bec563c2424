use Rattle.std.proofs.Common.{rules}
use Rattle.std.proofs.lemmas.List.FromFn.{length-range_with_len}
use Rattle.source.proofs.range.RangeSourceNumber.len.Goals as goal

pub returns : goal.returns
returns c = search (rules, length-range_with_len)
