use Rattle.std.proofs.Common.{◌≡◌, take}
use Rattle.ring_judge.specs.Broadcast.{transmitted_in}
use Rattle.ring_judge.proofs.broadcast.sent.bodies_of.Given as goal

abbrev pub invariant-loop-line : goal.invariant-loop-line
invariant-loop-line l = l.bodies.items ≡ transmitted_in (take l.line-index l.run)
