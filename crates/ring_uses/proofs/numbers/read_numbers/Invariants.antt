use Rattle.std.proofs.Common.{◌≡◌, ◌≤◌, length}
use Rattle.ring_ends.specs.End.{received, AreOfOneRing}
use Rattle.ring_uses.specs.Numbers.{sum_of}
use Rattle.ring_uses.proofs.numbers.read_numbers.Given as goal

abbrev pub invariant-loop : goal.invariant-loop
invariant-loop g l = AreOfOneRing l.fn.consumer l.consumer × (l.count ≤ length (received l.consumer))
    × (l.sum.sum ≡ sum_of (received l.consumer))
