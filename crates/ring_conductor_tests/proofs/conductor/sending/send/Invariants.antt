use Rattle.std.proofs.Common.{◌≡◌}
use Rattle.ring_rings.specs.Seats.{all_shares, shares_of, IsProducerOf}
use Rattle.ring_conductor_tests.proofs.conductor.sending.send.Given as goal

abbrev pub invariant-loop-command : goal.invariant-loop-command
invariant-loop-command g l = IsProducerOf l.ring l.producer × (shares_of l.producer ≡ all_shares)
