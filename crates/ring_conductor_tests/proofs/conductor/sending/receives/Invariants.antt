use Rattle.ring_board.specs.Seats.{IsReceiverOf}
use Rattle.ring_conductor_tests.proofs.conductor.sending.receives.Given as goal

abbrev pub invariant-loop-place : goal.invariant-loop-place
invariant-loop-place l = IsReceiverOf l.board l.receiver
