use Rattle.std.proofs.Common.{◌≡◌, [], replicate, vec_len}
use Rattle.ring_judge.specs.Lists.{lists_of}
use Rattle.ring_judge.proofs.queue.sent.empty_lists.Given as goal

abbrev pub invariant-loop-made : goal.invariant-loop-made
invariant-loop-made l = record {
  length : vec_len l.lists ≡ l.made;
  lists : lists_of l.lists.items ≡ replicate l.made [];
}
