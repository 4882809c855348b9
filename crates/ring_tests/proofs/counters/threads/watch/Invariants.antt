use Rattle.ring_counters.specs.Seats.{IsReaderOf}
use Rattle.ring_tests.proofs.counters.threads.watch.Given as goal

abbrev pub invariant-loop-turn : goal.invariant-loop-turn
invariant-loop-turn l = IsReaderOf l.values l.reader
