use Rattle.ring_judge.specs.Judged.{IsJudged}
use Rattle.ring_judge.proofs.ring.judge.ring_before.Given as goal

abbrev pub invariant-loop-at : goal.invariant-loop-at
invariant-loop-at l = record {
  judged : IsJudged l.ring;
}
