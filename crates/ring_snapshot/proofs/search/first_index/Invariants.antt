use Rattle.std.proofs.Common.{ℕ, ◌<◌, ◌≤◌, false}
use Rattle.ring_snapshot.proofs.search.first_index.Given as goal

abbrev pub invariant-loop-at : goal.invariant-loop-at
invariant-loop-at g l = (k : ℕ) → l.from ≤ k → k < l.at → g.F.Fn.post l.is_at (k, tt) false
