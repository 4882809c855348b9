use Rattle.std.proofs.Common.{◌≡◌}
use Rattle.ring_ends.{specs.Receivers.by_number, proofs.LeavingLemmas.LeftTo}
use Rattle.ring_ends.proofs.board.StandaloneBoard.join_all.Given as goal

-- the first receivers have left
abbrev pub invariant-loop-index : goal.invariant-loop-index
invariant-loop-index l =
    LeftTo (by_number l.initial.self.transmitter l.initial.self.receivers) l.index-end l.index
    (by_number l.self.transmitter l.self.receivers) × (l.self.board ≡ l.initial.self.board)
