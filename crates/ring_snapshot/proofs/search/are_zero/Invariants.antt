use Rattle.std.proofs.Common.{◌≡◌, ◌+◌, ◌-◌}
use Rattle.ring_snapshot.specs.Search.{are_zero}
use Rattle.ring_snapshot.proofs.search.are_zero.Given as goal

abbrev pub invariant-loop-k : goal.invariant-loop-k
invariant-loop-k l = are_zero l.words (l.count - l.k) (l.from + l.k) ≡ are_zero l.words l.count l.from
