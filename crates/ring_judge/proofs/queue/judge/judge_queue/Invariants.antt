use Rattle.std.proofs.Common.{◌≡◌, List, vec_len}
use Rattle.ring_judge.specs.{declared.message.Message.Message, Queue.AreWaiting, Lists.lists_of}
use Rattle.ring_judge.proofs.FollowLemmas.{AreLeft}
use Rattle.ring_judge.proofs.queue.judge.judge_queue.Given as goal

abbrev pub invariant-loop-at : goal.invariant-loop-at
invariant-loop-at l = record {
  length : vec_len l.waiting.taken ≡ l.count;
  left : (w : List Message) × AreWaiting (lists_of l.waiting.sent.items) l.waiting.taken.items l.waiting.left w
      × AreLeft l.run l.at w;
}
