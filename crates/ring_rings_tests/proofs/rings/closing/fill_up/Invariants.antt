use Rattle.ring_rings.specs.Seats.{IsProducerOf}
use Rattle.ring_rings_tests.proofs.rings.closing.fill_up.Given as goal

abbrev pub invariant-loop : goal.invariant-loop
invariant-loop g l = IsProducerOf l.ring l.producer
