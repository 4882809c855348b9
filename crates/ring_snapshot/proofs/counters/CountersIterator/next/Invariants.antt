use Rattle.std.proofs.Common.{◌≡◌, ◌-◌}
use Rattle.ring_snapshot.specs.CounterRecords.{counters_left}
use Rattle.ring_snapshot.proofs.counters.CountersIterator.next.Given as goal

-- no counter was passed over
abbrev pub invariant-loop-self : goal.invariant-loop-self
invariant-loop-self l = counters_left l.self ≡ counters_left l.initial.self

abbrev pub decreases-loop-self : goal.decreases-loop-self
decreases-loop-self l = l.self.counters.ids - l.self.next
