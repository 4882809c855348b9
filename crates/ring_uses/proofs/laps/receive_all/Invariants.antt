use Rattle.std.proofs.Common.{◌≡◌}
use Rattle.ring_board.specs.{Board.copied, Board.lapped_count_of, Seats.IsReceiverOf}
use Rattle.ring_uses.specs.{Laps.messages_of, Laps.AreWithin, Numbers.sum_of}
use Rattle.ring_uses.proofs.laps.receive_all.Given as goal

abbrev pub invariant-loop : goal.invariant-loop
invariant-loop l = IsReceiverOf l.board l.receiver × AreWithin (lapped_count_of l.receiver) (copied l.receiver)
    × (l.sum ≡ sum_of (messages_of (copied l.receiver)))
