use Rattle.ring_rings.specs.Seats.{IsProducerOf}
use Rattle.ring_rings_tests.proofs.rings.waiting.write_all.Given as goal

abbrev pub invariant-loop-type_id : goal.invariant-loop-type_id
invariant-loop-type_id g l = IsProducerOf l.ring l.producer
