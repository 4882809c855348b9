use Rattle.std.proofs.Common.{◌≤◌, ◌-◌, take, length, All}
use Rattle.ring_judge.specs.Judged.{IsBehind}
use Rattle.ring_judge.proofs.ring.heads.skip_behind.Given as goal

abbrev pub invariant-loop-at : goal.invariant-loop-at
invariant-loop-at l = record {
  within : l.at ≤ length l.claims;
  behind : All (IsBehind l.capacity l.tail) (take l.at l.claims);
}

abbrev pub decreases-loop-at : goal.decreases-loop-at
decreases-loop-at l = length l.claims - l.at
