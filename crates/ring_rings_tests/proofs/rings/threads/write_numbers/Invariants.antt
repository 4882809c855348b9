use Rattle.std.proofs.Common.{◌≡◌, ◌≤◌}
use Rattle.ring_rings.specs.Seats.{all_shares, shares_of, IsProducerOf}
use Rattle.ring_rings_tests.proofs.rings.threads.write_numbers.Given as goal

abbrev pub invariant-turns : goal.invariant-turns
invariant-turns g l = IsProducerOf l.ring l.producer × (shares_of l.producer ≡ all_shares) × (l.written ≤ 1000)
