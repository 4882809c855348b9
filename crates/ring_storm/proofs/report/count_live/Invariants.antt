use Rattle.std.proofs.Common.{◌≡◌, ◌+◌, fold, length}
use Rattle.ring_counters.specs.{Manager.registry_of, Registry.live_of}
use Rattle.ring_storm.specs.Storming.{sum_of, with_value_of}
use Rattle.ring_storm.proofs.report.count_live.Given as goal

abbrev pub invariant-loop-counter : goal.invariant-loop-counter
invariant-loop-counter l = record {
  goes : (goal.iterator-loop-counter).can_next l.counter-iterator;
  ends : (goal.iterator-loop-counter).is_finite l.counter-iterator;
  live : l.live + length l.counter-iterator ≡ length (live_of (registry_of l.counters));
  sum : fold with_value_of l.sum l.counter-iterator ≡ sum_of (live_of (registry_of l.counters));
}
