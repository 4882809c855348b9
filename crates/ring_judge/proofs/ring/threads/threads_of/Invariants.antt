use Rattle.std.proofs.Common.{◌<◌, ◌≤◌, take, All}
use Rattle.ring_judge.specs.Threads.{thread_of}
use Rattle.ring_judge.proofs.ring.threads.threads_of.Given as goal

abbrev pub invariant-loop-line : goal.invariant-loop-line
invariant-loop-line l = record {
  above : All (λ line. thread_of line < l.count) (take l.line-index l.run);
  some : 1 ≤ l.count;
}
