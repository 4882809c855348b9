use Rattle.std.proofs.Common.{◌-◌}
use Rattle.ring_board.specs.Seats.{IsReceiverOf}
use Rattle.ring_ends.proofs.HeldLemmas.{of_goes, sum_goes}
use Rattle.ring_scenario.proofs.service.CommandService.dismiss.Goals as goal

pub join_receiver-requires-clause-receiver : goal.join_receiver-requires-clause-receiver
join_receiver-requires-clause-receiver c = c.args.self.now.listen.receivers (c.args.number - 1)
    c.in_ok-listener.listener c.in_ok-listener.ensures.taken.here.has

pub invariant_of-self-2-clause-listen : goal.invariant_of-self-2-clause-listen
invariant_of-self-2-clause-listen c = record {
  transmitter = c.join_receiver.ensures.board;
  receivers = of_goes (IsReceiverOf c.args.self.now.board) _ _ _ _ c.args.self.now.listen.receivers
      c.in_ok-listener.ensures.taken;
}

pub invariant_of-self-2-clause-shares : goal.invariant_of-self-2-clause-shares
invariant_of-self-2-clause-shares c = sum_goes _ _ _ _ _ _ _ c.in_ok-listener.ensures.taken
    c.join_receiver.ensures.joined.shares c.args.self.now.shares
