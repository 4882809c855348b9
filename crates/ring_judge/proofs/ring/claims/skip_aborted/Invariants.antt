use Rattle.std.proofs.Common.{◌≡◌, ◌≤◌, ◌-◌, drop, length}
use Rattle.ring_judge.specs.Ring.{unaborted}
use Rattle.ring_judge.proofs.ring.claims.skip_aborted.Given as goal

abbrev pub invariant-loop-at : goal.invariant-loop-at
invariant-loop-at l = record {
  within : l.at ≤ length l.claims;
  rest : unaborted (drop l.from l.claims) ≡ unaborted (drop l.at l.claims);
}

abbrev pub decreases-loop-at : goal.decreases-loop-at
decreases-loop-at l = length l.claims - l.at
