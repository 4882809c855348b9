use Rattle.std.proofs.Common.{◌∙◌}
use Rattle.ring_service.{specs.Conducting.ledger_of, specs.Conducting.ring_view, proofs.WorkLemmas.took_room}
use Rattle.ring_service.proofs.RunLemmas.{grows_out, grows_stopped, heard_out, heard_stopped, leads_next, runs_out}
use Rattle.ring_service.proofs.conductor.Conductor.run.Goals as goal

pub loop-cycle-preserved : goal.loop-cycle-preserved
loop-cycle-preserved g c =
    let on = c.loop-cycle in
    let e = c.do_work-work.ensures in
    record {
      conductor = e.conductor;
      leads = leads_next c.args.cycles.now (ring_view c.args.self.now)
          (ledger_of c.args.self.now) on.cycle-index on.stopped
          on.messages (ring_view on.self) (ledger_of on.self) on.invariant.leads c.loop-cycle-test.true
          (ring_view c.do_work-work.new.self) (ledger_of c.do_work-work.new.self) c.do_work-work.result e.works
          c.in_default.not-BoardEnd;
      value_shares = e.value_shares ∙ on.invariant.value_shares;
      room = took_room _ _ _ _ _ _ _ e.works on.messages on.invariant.room;
    }

pub returns-clause-runs : goal.returns-clause-runs
returns-clause-runs g c =
    let on = c.loop-cycle in
    runs_out c.args.cycles.now (ring_view c.args.self.now) (ledger_of c.args.self.now) on.cycle-index on.stopped
    on.messages (ring_view on.self) (ledger_of on.self) on.invariant.leads c.loop-cycle-test.false

pub returns-clause-grows : goal.returns-clause-grows
returns-clause-grows g c =
    let on = c.loop-cycle in
    grows_out c.args.cycles.now (ring_view c.args.self.now) (ledger_of c.args.self.now) on.cycle-index on.stopped
    on.messages (ring_view on.self) (ledger_of on.self) on.invariant.leads c.loop-cycle-test.false

pub returns-clause-heard : goal.returns-clause-heard
returns-clause-heard g c =
    let on = c.loop-cycle in
    heard_out c.args.cycles.now (ring_view c.args.self.now) (ledger_of c.args.self.now) on.cycle-index on.stopped
    on.messages (ring_view on.self) (ledger_of on.self) on.invariant.leads c.loop-cycle-test.false

pub returns-in-BoardEnd-clause-grows : goal.returns-in-BoardEnd-clause-grows
returns-in-BoardEnd-clause-grows g c =
    let on = c.loop-cycle in
    grows_stopped c.args.cycles.now (ring_view c.args.self.now) (ledger_of c.args.self.now) on.cycle-index on.stopped
    on.messages (ring_view on.self) (ledger_of on.self) on.invariant.leads c.loop-cycle-test.true
    (ring_view c.do_work-work.new.self) (ledger_of c.do_work-work.new.self) c.do_work-work.result
    c.do_work-work.ensures.works c.in-BoardEnd.is

pub returns-in-BoardEnd-clause-heard : goal.returns-in-BoardEnd-clause-heard
returns-in-BoardEnd-clause-heard g c =
    let on = c.loop-cycle in
    heard_stopped c.args.cycles.now (ring_view c.args.self.now) (ledger_of c.args.self.now) on.cycle-index on.stopped
    on.messages (ring_view on.self) (ledger_of on.self) on.invariant.leads c.loop-cycle-test.true
    (ring_view c.do_work-work.new.self) (ledger_of c.do_work-work.new.self) c.do_work-work.result
    c.do_work-work.ensures.works c.in-BoardEnd.is
