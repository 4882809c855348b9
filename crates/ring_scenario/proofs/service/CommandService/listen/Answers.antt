use Rattle.std.proofs.Common.{ap, rules, subst}
use Rattle.ring_board.specs.{declared.shared.view.View.View, Seats.IsReceiverOf}
use Rattle.ring_ends.{specs.Held.Comes, specs.Held.held_in, proofs.HeldLemmas.of_comes, proofs.HeldLemmas.sum_comes}
use Rattle.ring_service.specs.Conducting.{transmitter_of}
use Rattle.ring_scenario.proofs.service.CommandService.listen.Goals as goal

pub invariant_of-self-in-Ok-clause-listen : goal.invariant_of-self-in-Ok-clause-listen
invariant_of-self-in-Ok-clause-listen c =
    let comes = subst (λ l. Comes c.in-Ok.listener l c.hold.result (held_in c.hold.new.self)) c.reserve.ensures.same
    c.hold.ensures in
    record {
      transmitter = c.subscribe.ensures.board;
      receivers = of_comes (IsReceiverOf c.args.self.now.board) _ _ _ _ c.args.self.now.listen.receivers comes
          c.in-Ok.ensures.receiver.0;
    }

pub invariant_of-self-in-Ok-clause-shares : goal.invariant_of-self-in-Ok-clause-shares
invariant_of-self-in-Ok-clause-shares c =
    let comes = subst (λ l. Comes c.in-Ok.listener l c.hold.result (held_in c.hold.new.self)) c.reserve.ensures.same
    c.hold.ensures in
    let was = (transmitter_of c.args.self.now.conductor).held in
    sum_comes _ _ _ _ _ _ _ comes (search (rules, was)) (ap (λ (v : View). v.shares) c.in-Ok.ensures.fewer)
    c.args.self.now.shares

pub returns-in-Ok-clause-made : goal.returns-in-Ok-clause-made
returns-in-Ok-clause-made c =
    let made = c.in-Ok.ensures in
    let comes = subst (λ l. Comes c.in-Ok.listener l c.hold.result (held_in c.hold.new.self)) c.reserve.ensures.same
    c.hold.ensures in
    record { receiver = c.in-Ok.listener; knows = made.receiver.1; share = made.fewer; comes = comes }
