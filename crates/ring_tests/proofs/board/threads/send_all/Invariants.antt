use Rattle.ring_board.specs.Seats.{IsTransmitterOf}
use Rattle.ring_tests.proofs.board.threads.send_all.Given as goal

abbrev pub invariant-sends : goal.invariant-sends
invariant-sends l = IsTransmitterOf l.board l.transmitter
