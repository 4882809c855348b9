use Rattle.std.proofs.Common.{◌≡◌}
use Rattle.ring_board.specs.Seats.{IsReceiverOf}
use Rattle.ring_service.specs.Asking.{producer_of, receiver_of}
use Rattle.ring_storm.specs.Turns.{Lengthens, copies_by}
use Rattle.ring_storm.proofs.shared.Shared.hear.Given as goal

abbrev pub invariant-loop : goal.invariant-loop
invariant-loop g l = record {
  receiver : IsReceiverOf l.self.board.now (receiver_of l.client);
  grows : Lengthens (copies_by l.fn.client) (copies_by l.client);
  producer : producer_of l.client ≡ producer_of l.fn.client;
}
