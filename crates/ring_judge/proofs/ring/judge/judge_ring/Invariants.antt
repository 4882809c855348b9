use Rattle.std.proofs.Common.{◌≡◌}
use Rattle.ring_judge.{specs.Judged.IsJudged, specs.Judged.state_of, proofs.StepLemmas.AreRecorded}
use Rattle.ring_judge.proofs.ring.judge.judge_ring.Given as goal

abbrev pub invariant-loop-at : goal.invariant-loop-at
invariant-loop-at l = record {
  judged : IsJudged l.ring;
  capacity : l.ring.capacity ≡ l.capacity;
  recorded : AreRecorded l.capacity l.start l.run l.at (state_of l.ring);
}
