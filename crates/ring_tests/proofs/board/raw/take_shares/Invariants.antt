use Rattle.ring_board.specs.Seats.{IsTransmitterOf}
use Rattle.ring_tests.proofs.board.raw.take_shares.Given as goal

abbrev pub invariant-shares : goal.invariant-shares
invariant-shares g l = IsTransmitterOf l.board l.transmitter
