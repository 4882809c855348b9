use Rattle.std.proofs.Common.{◌≡◌, ◌≤◌, ◌-◌, ◌↔◌, drop, length}
use Rattle.ring_judge.specs.Ring.{IsHead, claims_from}
use Rattle.ring_judge.proofs.ring.claims.move_head.Given as goal

abbrev pub invariant-loop-next : goal.invariant-loop-next
invariant-loop-next l = record {
  within : l.next ≤ length l.claims;
  is_head : IsHead l.at l.head (drop l.passed l.claims) ↔ IsHead l.at l.end (drop l.next l.claims);
  left : claims_from l.at (drop l.passed l.claims) ≡ claims_from l.at (drop l.next l.claims);
}

abbrev pub decreases-loop-next : goal.decreases-loop-next
decreases-loop-next l = length l.claims - l.next
