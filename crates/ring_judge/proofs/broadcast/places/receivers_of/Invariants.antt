use Rattle.std.proofs.Common.{take, All}
use Rattle.ring_judge.specs.Broadcast.{IsOfReceiverBelow}
use Rattle.ring_judge.proofs.broadcast.places.receivers_of.Given as goal

abbrev pub invariant-loop-line : goal.invariant-loop-line
invariant-loop-line l = All (λ line. IsOfReceiverBelow l.count line) (take l.line-index l.run)
