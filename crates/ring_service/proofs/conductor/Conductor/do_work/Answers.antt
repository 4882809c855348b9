use Rattle.std.proofs.Common.{sym, subst}
use Rattle.std.proofs.Math.Logic.{∥∥₁_map}
use Rattle.ring_board.specs.Seats.{IsTransmitterOf}
use Rattle.ring_counters.specs.Manager.{IsManagerOf}
use Rattle.ring_service.proofs.{WorkLemmas.took, WorkLemmas.took_room, ServiceLemmas.works_serve}
use Rattle.ring_service.proofs.AccountLemmas.{works_on, works_grow, works_heard}
use Rattle.ring_service.proofs.conductor.Conductor.do_work.Goals as goal

pub shape_of-self : goal.shape_of-self
shape_of-self g c = sym c.take-work.ensures.same.counters

pub shape_of-self-2 : goal.shape_of-self-2
shape_of-self-2 g c = sym c.take-work.ensures.same.transmitter

pub returns-clause-conductor : goal.returns-clause-conductor
returns-clause-conductor g c =
    let e = c.take-work.ensures in (
      e.consumer,
      subst (λ b. IsTransmitterOf b.now c.take-work.new.serving.transmitter.now) e.same.board e.ready.board,
      subst (λ b. IsManagerOf b.now c.take-work.new.serving.counters.now) e.same.values e.ready.values,
    )

pub returns-clause-works : goal.returns-clause-works
returns-clause-works g c = c.take-work.ensures.works

pub returns-clause-value_shares : goal.returns-clause-value_shares
returns-clause-value_shares g c = c.take-work.ensures.same.value_shares

pub invariant_of-self-clause-counted : goal.invariant_of-self-clause-counted
invariant_of-self-clause-counted g c = took _ _ _ _ _ _ _ c.take-work.ensures.works c.args.self.now.received
    c.args.self.now.counted

pub invariant_of-self-clause-answered : goal.invariant_of-self-clause-answered
invariant_of-self-clause-answered g c = took_room _ _ _ _ _ _ _ c.take-work.ensures.works c.args.self.now.received
    c.args.self.now.answered

pub invariant_of-self-clause-folded : goal.invariant_of-self-clause-folded
invariant_of-self-clause-folded g c =
    ∥∥₁_map c.args.self.now.folded (works_on _ _ _ _ _ _ _ c.take-work.ensures.works c.requires.now)

pub returns-clause-grows : goal.returns-clause-grows
returns-clause-grows g c = works_grow _ _ _ _ _ _ _ c.take-work.ensures.works

pub returns-clause-heard : goal.returns-clause-heard
returns-clause-heard g c = works_heard _ _ _ _ _ _ _ c.take-work.ensures.works

pub returns-clause-serves : goal.returns-clause-serves
returns-clause-serves g c = works_serve _ _ _ _ _ c.take-work.ensures.works
