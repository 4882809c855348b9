use Rattle.std.proofs.Common.{◌-◌, length}
use Rattle.ring_judge.proofs.WordLemmas.{ArePassed}
use Rattle.ring_judge.proofs.ring.words.clear_to.Given as goal

abbrev pub invariant-loop-at : goal.invariant-loop-at
invariant-loop-at l = ArePassed l.capacity l.read l.to l.claims l.fn.from l.at l.end

abbrev pub decreases-loop-at : goal.decreases-loop-at
decreases-loop-at l = length l.claims - l.at
