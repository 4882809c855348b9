use Rattle.ring_rings.specs.Seats.{IsConsumerOf}
use Rattle.ring_service.specs.Conducting.{IsConductorOf}
use Rattle.ring_bench.proofs.trips.conduct.Given as goal

abbrev pub invariant-loop : goal.invariant-loop
invariant-loop g l = IsConductorOf IsConsumerOf l.ring l.board l.values l.conductor
