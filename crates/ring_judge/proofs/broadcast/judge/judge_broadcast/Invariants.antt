use Rattle.std.proofs.Common.{◌≡◌, vec_len}
use Rattle.ring_judge.proofs.ReadLemmas.{AreRead}
use Rattle.ring_judge.proofs.broadcast.judge.judge_broadcast.Given as goal

abbrev pub invariant-loop-at : goal.invariant-loop-at
invariant-loop-at l = record {
  same : vec_len l.places ≡ l.count;
  read : AreRead l.run l.at l.places.items;
}
