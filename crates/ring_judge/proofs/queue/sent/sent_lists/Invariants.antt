use Rattle.std.proofs.Common.{◌≡◌, ◌<◌, ℕ, [], take, get_or, vec_len}
use Rattle.ring_judge.specs.{Queue.part_of, Queue.sent_in, Lists.lists_of}
use Rattle.ring_judge.proofs.queue.sent.sent_lists.Given as goal

abbrev pub invariant-loop-line : goal.invariant-loop-line
invariant-loop-line l = record {
  length : vec_len l.lists ≡ l.count;
  lists : (p : ℕ) → p < l.count → get_or (lists_of l.lists.items) p [] ≡ part_of p (sent_in (take l.line-index l.run));
}
