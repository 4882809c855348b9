use Rattle.std.proofs.Common.{◌≡◌, ◌≤◌, length, take}
use Rattle.ring_judge.specs.Queue.{sent_in}
use Rattle.ring_judge.proofs.queue.sent.sent_count.Given as goal

abbrev pub invariant-loop-line : goal.invariant-loop-line
invariant-loop-line l = record {
  counted : l.count ≡ length (sent_in (take l.line-index l.run));
  few : l.count ≤ l.line-index;
}
