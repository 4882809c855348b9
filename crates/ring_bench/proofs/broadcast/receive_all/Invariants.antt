use Rattle.ring_board.specs.Seats.{IsReceiverOf}
use Rattle.ring_bench.proofs.broadcast.receive_all.Given as goal

abbrev pub invariant-loop : goal.invariant-loop
invariant-loop l = IsReceiverOf l.board l.receiver
