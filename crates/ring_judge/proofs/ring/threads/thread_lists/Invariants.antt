use Rattle.std.proofs.Common.{◌≡◌, ℕ, [], take, get_or, vec_len}
use Rattle.ring_judge.specs.{Lists.lists_of, Threads.lines_of, Threads.numbered}
use Rattle.ring_judge.proofs.ring.threads.thread_lists.Given as goal

abbrev pub invariant-loop-at : goal.invariant-loop-at
invariant-loop-at l = record {
  same : vec_len l.lists ≡ l.count;
  lists : (t : ℕ) → get_or (lists_of l.lists.items) t [] ≡ lines_of t (numbered 0 (take l.at l.run));
}
