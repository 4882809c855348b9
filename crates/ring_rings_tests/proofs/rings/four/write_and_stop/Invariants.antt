use Rattle.ring_rings.specs.Seats.{IsProducerOf}
use Rattle.ring_rings_tests.proofs.rings.four.write_and_stop.Given as goal

abbrev pub invariant-tries : goal.invariant-tries
invariant-tries g l = IsProducerOf l.ring l.producer
