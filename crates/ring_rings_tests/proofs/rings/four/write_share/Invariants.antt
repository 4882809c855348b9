use Rattle.std.proofs.Common.{◌≤◌}
use Rattle.ring_rings.specs.Seats.{IsProducerOf}
use Rattle.ring_rings_tests.proofs.rings.four.write_share.Given as goal

abbrev pub invariant-turns : goal.invariant-turns
invariant-turns g l = IsProducerOf l.ring l.producer × (l.count ≤ 2500)
