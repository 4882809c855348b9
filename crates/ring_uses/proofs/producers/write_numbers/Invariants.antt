use Rattle.std.proofs.Common.{◌≡◌, ◌≤◌}
use Rattle.ring_ends.specs.End.{sent, AreOfOneRing}
use Rattle.ring_uses.specs.Numbers.{numbers}
use Rattle.ring_uses.proofs.producers.write_numbers.Given as goal

abbrev pub invariant-loop : goal.invariant-loop
invariant-loop g l = AreOfOneRing l.fn.producer l.producer × (l.written ≤ l.last)
    × (sent l.producer ≡ numbers l.fn.type_id l.written)
