use Rattle.std.proofs.Common.{◌≡◌, ◌-◌}
use Rattle.ring_recovery.specs.Recovered.{messages_left}
use Rattle.ring_recovery.proofs.recovered.RecoveredIterator.next.Given as goal

-- no message so far
abbrev pub invariant-loop-self : goal.invariant-loop-self
invariant-loop-self l = messages_left l.self ≡ messages_left l.fn.self

abbrev pub decreases-loop-self : goal.decreases-loop-self
decreases-loop-self l = l.self.tail - l.self.at
