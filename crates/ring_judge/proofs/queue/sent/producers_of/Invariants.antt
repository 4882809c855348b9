use Rattle.std.proofs.Common.{take, All}
use Rattle.ring_judge.specs.Queue.{IsBelow}
use Rattle.ring_judge.proofs.queue.sent.producers_of.Given as goal

abbrev pub invariant-loop-line : goal.invariant-loop-line
invariant-loop-line l = All (λ line. IsBelow l.count line) (take l.line-index l.run)
