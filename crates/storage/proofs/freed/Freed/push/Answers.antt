use Rattle.std.proofs.Common.{◌<◌, length, arith}
use Rattle.storage.proofs.Stacks.{length-stack, stack-pushed}
use Rattle.storage.proofs.freed.Freed.push.Goals as goal

pub returns : goal.returns
returns c =
    let free = c.args.self.now in
    let room : free.count < length free.numbers = omega (arith, c.requires.room, length-stack free.numbers free.count, free.long) in
    stack-pushed free.numbers c.args.number free.count room
