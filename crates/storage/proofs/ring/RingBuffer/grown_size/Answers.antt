use Rattle.std.proofs.Common.{◌≡◌, ◌+◌, ◌≤◌, sym, ap, ◌∙◌, mul_comm, arith}
use Rattle.ledger.specs.Ledger.{size_for}
use Rattle.ledger.proofs.Sizes.{size_laws, size-doubles}
use Rattle.storage.proofs.ring.RingBuffer.grown_size.Goals as goal

pub returns-in_err-need : goal.returns-in_err-need
returns-in_err-need g c = rw c.from_residual.ensures (omega (arith, size_laws.enough c.args.self.now.last.size (c.args.waiting + c.args.num) (omega arith), c.in_err-need.ensures))

pub returns-then-need-self : goal.returns-then-need-self
returns-then-need-self g c = omega (arith, size_laws.enough c.args.self.now.last.size (c.args.waiting + c.args.num) (omega arith), c.in_ok-need.ensures)

pub loop-size-preserved : goal.loop-size-preserved
loop-size-preserved g c =
    let some : 1 ≤ c.loop-size.size = c.loop-size.invariant.0 in
    (omega arith, ap (λ n. size_for n c.in_ok-need.need) (mul_comm c.loop-size.size 2) ∙ size-doubles c.loop-size.size c.in_ok-need.need some c.loop-size-test.true ∙ c.loop-size.invariant.1)

pub returns-then-size-self : goal.returns-then-size-self
returns-then-size-self g c =
    let grown : c.loop-size.size ≡ size_for c.args.self.now.last.size (c.args.waiting + c.args.num) =
    sym (size_laws.stays c.loop-size.size c.in_ok-need.need c.loop-size-test.false) ∙ c.loop-size.invariant.1 ∙ ap (size_for c.args.self.now.last.size) c.in_ok-need.ensures.1 in
    omega arith

pub returns-else-size-self : goal.returns-else-size-self
returns-else-size-self g c = (sym (size_laws.stays c.loop-size.size c.in_ok-need.need c.loop-size-test.false) ∙ c.loop-size.invariant.1 ∙ ap (size_for c.args.self.now.last.size) c.in_ok-need.ensures.1, omega arith)
