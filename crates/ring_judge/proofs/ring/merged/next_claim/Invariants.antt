use Rattle.std.proofs.Common.{◌≡◌, ◌-◌, ◌≤◌, None, drop, length, take}
use Rattle.ring_judge.specs.Merged.{first_claim}
use Rattle.ring_judge.proofs.ring.merged.next_claim.Given as goal

abbrev pub invariant-loop-at : goal.invariant-loop-at
invariant-loop-at l = record {
  ahead : l.from ≤ l.at;
  none : first_claim (take (l.at - l.from) (drop l.from l.list)) ≡ None;
}

abbrev pub decreases-loop-at : goal.decreases-loop-at
decreases-loop-at l = length l.list - l.at
