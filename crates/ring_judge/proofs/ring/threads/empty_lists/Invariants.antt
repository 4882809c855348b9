use Rattle.std.proofs.Common.{◌≡◌, ℕ, [], get_or, vec_len}
use Rattle.ring_judge.specs.Lists.{lists_of}
use Rattle.ring_judge.proofs.ring.threads.empty_lists.Given as goal

abbrev pub invariant-loop-made : goal.invariant-loop-made
invariant-loop-made l = record {
  same : vec_len l.lists ≡ l.made;
  lists : (t : ℕ) → get_or (lists_of l.lists.items) t [] ≡ [];
}
