use Rattle.ring_board.specs.Seats.{IsReceiverOf}
use Rattle.ring_tests.proofs.board.threads.read_all.Given as goal

abbrev pub invariant-turns : goal.invariant-turns
invariant-turns l = IsReceiverOf l.board l.receiver
