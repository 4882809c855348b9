use Rattle.std.proofs.Common.{All}
use Rattle.ring_board.specs.Seats.{IsReceiverOf, IsTransmitterOf}
use Rattle.ring_bench.proofs.broadcast.subscribe_all.Given as goal

abbrev pub invariant-loop : goal.invariant-loop
invariant-loop l = IsTransmitterOf l.board l.transmitter × All (λ receiver. IsReceiverOf l.board receiver) l.them.items
