use Rattle.std.proofs.Common.{◌≡◌}
use Rattle.ring_board.specs.Seats.{IsReceiverOf}
use Rattle.ring_service.specs.Asking.{producer_of, receiver_of}
use Rattle.ring_bench.proofs.trips.receive.Given as goal

abbrev pub invariant-loop : goal.invariant-loop
invariant-loop l = IsReceiverOf l.board (receiver_of l.client)
    × (producer_of l.client ≡ producer_of l.initial.client)
