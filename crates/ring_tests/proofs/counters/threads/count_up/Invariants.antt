use Rattle.ring_counters.specs.Manager.{IsManagerOf}
use Rattle.ring_tests.proofs.counters.threads.count_up.Given as goal

abbrev pub invariant-loop-value : goal.invariant-loop-value
invariant-loop-value l = IsManagerOf l.values l.counters
