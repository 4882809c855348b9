use Rattle.ring_rings.specs.Seats.{IsConsumerOf}
use Rattle.ring_recorder.proofs.consumer.consume.Given as goal

abbrev pub invariant-loop : goal.invariant-loop
invariant-loop g l = IsConsumerOf l.ring l.consumer
