use Rattle.std.proofs.Common.{◌≡◌, ◌≤◌, pos}
use Rattle.ring_ends.specs.End.{sent, AreOfOneRing}
use Rattle.ring_uses.specs.Numbers.{numbers}
use Rattle.ring_uses.proofs.sum.write_numbers.Given as goal

abbrev pub invariant-loop : goal.invariant-loop
invariant-loop g l = AreOfOneRing l.fn.producer l.producer × (l.written ≤ l.last)
    × (sent l.producer ≡ numbers (pos 1) l.written)
