use Rattle.ring_judge.{specs.Judged.state_of, proofs.RefusalLemmas.AreNotFull}
use Rattle.ring_judge.proofs.ring.judged.Judged.refuses.Given as goal

abbrev pub invariant-loop-count : goal.invariant-loop-count
invariant-loop-count l = AreNotFull l.self.capacity (state_of l.self) l.producer l.len l.count

abbrev pub decreases-loop-count : goal.decreases-loop-count
decreases-loop-count l = l.count
