use Rattle.std.proofs.Common.{◌≡◌, ◌-◌}
use Rattle.ring_counters.specs.Registry.{count_of, live_from}
use Rattle.ring_counters.proofs.calls.list.LiveCountersIterator.next.Given as goal

-- no counter in use was passed over
abbrev pub invariant-loop-self : goal.invariant-loop-self
invariant-loop-self l = live_from l.self-inside.records.now l.self-inside.next ≡ l.fn.self

abbrev pub decreases-loop-self : goal.decreases-loop-self
decreases-loop-self l = count_of l.self-inside.records.now - l.self-inside.next
