use Rattle.ring_rings.specs.Seats.{IsConsumerOf}
use Rattle.ring_rings_tests.proofs.rings.four.read_shares.Given as goal

abbrev pub invariant-turns : goal.invariant-turns
invariant-turns g l = IsConsumerOf l.ring l.consumer
