use Rattle.ring_rings.specs.Seats.{IsConsumerOf, IsProducerOf}
use Rattle.ring_rings_tests.proofs.rings.closing.SplitsAllOnShared.holds.Given as goal

abbrev pub invariant-loop : goal.invariant-loop
invariant-loop g l = IsProducerOf l.ring l.first × IsConsumerOf l.ring l.consumer
