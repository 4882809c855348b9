use Rattle.std.proofs.Common.{◌-◌}
use Rattle.ring_board.specs.Seats.{IsReceiverOf}
use Rattle.ring_ends.proofs.HeldLemmas.{of_goes, sum_goes}
use Rattle.ring_ends.proofs.board.StandaloneBoard.leave.Goals as goal

pub join-requires-clause-receiver : goal.join-requires-clause-receiver
join-requires-clause-receiver c = c.args.self.now.belong.receivers (c.args.number - 1) c.in_ok-receiver.receiver
    c.in_ok-receiver.ensures.taken.here.has

pub invariant_of-self-2-clause-belong : goal.invariant_of-self-2-clause-belong
invariant_of-self-2-clause-belong c = record {
  transmitter = c.join.ensures.board;
  receivers = of_goes (IsReceiverOf c.args.self.now.board) _ _ _ _ c.args.self.now.belong.receivers
      c.in_ok-receiver.ensures.taken;
}

pub invariant_of-self-2-clause-shares : goal.invariant_of-self-2-clause-shares
invariant_of-self-2-clause-shares c = sum_goes _ _ _ _ _ _ _ c.in_ok-receiver.ensures.taken c.join.ensures.shares
    c.args.self.now.shares
