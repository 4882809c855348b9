use Rattle.std.proofs.Common.{All}
use Rattle.ring_rings.specs.Seats.{IsProducerOf}
use Rattle.ring_recorder.proofs.storm.workers_of.Given as goal

abbrev pub invariant-loop-id : goal.invariant-loop-id
invariant-loop-id g l = IsProducerOf l.ring l.producer × All (λ worker. IsProducerOf l.ring worker.producer) l.workers.items
