use Rattle.std.proofs.Common.{◌≡◌, ◌-◌, ◌≤◌}
use Rattle.ledger.specs.Ledger.{size_for}
use Rattle.storage.proofs.ring.RingBuffer.grown_size.Given as goal

abbrev pub invariant-loop-size : goal.invariant-loop-size
invariant-loop-size g l = (1 ≤ l.size) × (size_for l.size l.need ≡ size_for l.initial.size l.need)

abbrev pub decreases-loop-size : goal.decreases-loop-size
decreases-loop-size g l = l.need - l.size
