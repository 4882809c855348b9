use Rattle.ring_rings.specs.Seats.{IsConsumerOf}
use Rattle.ring_rings_tests.proofs.rings.threads.read_numbers.Given as goal

abbrev pub invariant-turns : goal.invariant-turns
invariant-turns g l = IsConsumerOf l.ring l.consumer
