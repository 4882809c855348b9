use Rattle.std.proofs.Common.{◌≡◌, ◌∙◌, ap, subst, sym, arith}
use Rattle.ring_counters.specs.declared.manager.CountersManager.{CountersManager}
use Rattle.ring_counters.specs.Manager.{registry_of, writes_of}
use Rattle.ring_counters.specs.{Registry.count_of, declared.values.seats.CounterValues.CounterValues}
use Rattle.ring_storm.specs.declared.{plan.StormPlan.StormPlan, seats.StormEnd.StormEnd}
use Rattle.ring_service.specs.declared.{conductor.Conductor.Conductor, finishing.Finished.Finished}
use Rattle.ring_service.specs.{Asking.services_of, Conducting.received_of, Conducting.ring_view}
use Rattle.ring_service.specs.Finishing.{claims_in, joined_by, replies_of, services_in}
use Rattle.ring_storm.specs.Storming.{HasFinished, IsBoardFor, IsReportBy, IsReportFrom, storm_counters}
use Rattle.ring_rings.specs.declared.{ring.Ring.Ring, bodies.Bodies.Ghosts, ring.Producer.Producer}
use Rattle.ring_board.specs.{declared.board.Board.Board, Closing.closed_capacity}
use Rattle.ring_rings.specs.{Reading.messages_of, Seats.claims_of, Seats.view_of}
use Rattle.ring_storm.proofs.SeatLemmas.{drawn_once}
use Rattle.ring_storm.proofs.StormLemmas.{handed_at, reported, storm_count}
use Rattle.ring_storm.proofs.storms.storm_over.Goals as goal

-- the counters are what the messages taken make of fresh ones
counted : {K B : Type 0} {G : Ghosts B} {p : StormPlan} {ring : Ring K B G} {board : Board} {values : CounterValues} {end : StormEnd}
    (e : HasFinished p ring board values end)
    → registry_of end.finished.counters ≡ storm_counters p (messages_of (received_of e.endpoints.conductor))
counted e = ap (λ (m : CountersManager). registry_of m) e.hands_on.counters ∙ e.end.endpoints.2.0

pub report-requires : goal.report-requires
report-requires g c =
    let e = c.run-finished.ensures in
    let lawful = c.is_lawful.ensures.0 c.if-not-is_lawful.false in
    let messages = messages_of (received_of e.endpoints.conductor) in
    let count = ap count_of (counted e) ∙ storm_count c.args.plan.now messages in
    omega (arith, lawful.clients.1)

pub returns-in-None-clause-report : goal.returns-in-None-clause-report
returns-in-None-clause-report g c =
    let e = c.run-finished.ensures in
    let done = e.end.done c.in-None.is in
    let said = c.report.ensures in
    let knows = view_of e.endpoints.producer in
    let ring = c.in-Ok.ensures.ring in
    let served = e.hands_on.services in
    let taken = messages_of (received_of e.endpoints.conductor) in
    let finished = c.run-finished.result.finished in
    let by = reported _ _ _ _ _ _ _ _ record {
      lawful = c.is_lawful.ensures.0 c.if-not-is_lawful.false;
      out = handed_at _ _ _ knows (ring_view e.endpoints.conductor) c.run-finished.result.finished.rest ring.0 ring.1
          e.headline.left;
      whole = e.headline.whole;
      settled = e.all.settled;
      few = e.end.sent;
      done = done.0;
      turns = done.2;
      drawn = served.drawn;
      once = drawn_once knows.producer _ e.end.endpoints.3 served.once;
      runs = e.headline.runs;
      counters_are = counted e;
      writes = writes_of finished.counters;
      folded = e.headline.folded;
    } c.report.result _ _ e.hands_on.received done.1 said.received said.left said.live said.sum in
    let same_producer = subst (λ (x : Producer). IsReportBy c.args.plan.now c.report.result (claims_of x) taken
    (replies_of e.endpoints.conductor) (joined_by e.endpoints.conductor) (services_of x) (registry_of finished.counters)
    (writes_of finished.counters)) (sym e.hands_on.producer) by in
    let same_conductor = subst (λ (x : Conductor). IsReportBy c.args.plan.now c.report.result (claims_in finished)
    (messages_of (received_of x)) (replies_of x) (joined_by x) (services_in finished)
    (registry_of finished.counters) (writes_of finished.counters)) (sym e.hands_on.conductor) same_producer in
    let capacity = e.hands_on.replies.0 ∙ c.in-Ok-new.ensures.board.0 in
    let board = subst (IsBoardFor c.args.plan.now) (sym capacity) c.board_capacity.ensures in (
      subst (IsReportFrom c.args.plan.now c.report.result) (sym said.finished) same_conductor,
      subst (λ (f : Finished). IsBoardFor c.args.plan.now (closed_capacity f.board)) (sym said.finished) board,
    )
