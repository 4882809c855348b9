use Rattle.std.proofs.Common.{◌≡◌, ◌∙◌, [], ◌∷◌, length, map, refl, sym, ap, subst, arith}
use Rattle.ring_table.specs.{declared.view.View.View, OpenClaims.open_count, Services.times_drawn}
use Rattle.ring_rings.specs.{declared.ring.Consumer.Consumer, declared.ring.Producer.Producer, Reading.messages_of}
use Rattle.ring_rings.specs.{Closing.AreOrdered, Closing.Serves, Ring.sent as sent_by, Ring.IsWhole}
use Rattle.ring_rings.specs.Seats.{capacity_of, claims_of, consumer_view, open_claims_of, shares_of, taken_of, view_of}
use Rattle.ring_board.specs.declared.board.{CopyReceiver.CopyReceiver, Transmitter.Transmitter}
use Rattle.ring_board.specs.{declared.shared.view.View.View as BoardView, Views.as_joined, Views.fewer, Views.newcomer}
use Rattle.ring_board.specs.{Closing.closed_words, Closing.IsClosed, Runs.AreAllRuns, Board.transmitted}
use Rattle.ring_board.specs.Seats.{capacity_of as board_capacity_of, receiver_seat, receiver_view, shares_of as board_shares_of, view_of as transmitter_view}
use Rattle.ring_counters.specs.declared.manager.CountersManager.{CountersManager}
use Rattle.ring_counters.specs.declared.values.seats.CounterValues.{CounterValues}
use Rattle.ring_counters.specs.Manager.{registry_of, writes_of, IsManagerOf}
use Rattle.ring_service.specs.declared.{conductor.Conductor.Conductor, whole.Parties.Parties, whole.WholeRun.WholeRun}
use Rattle.ring_service.specs.{Account.fresh_account, Whole.Concludes, Whole.opening_ledger, Whole.settled_message}
use Rattle.ring_service.specs.Asking.{IsHeard, client_seat, client_view, service_of, services_of}
use Rattle.ring_service.specs.Conducting.{KeepsTheRest, consumer_of, ledger_of, manager_in, received_of, ring_view, transmitter_of}
use Rattle.ring_service.specs.{Finishing.joined_by, Finishing.replies_of, Service.account_in}
use Rattle.ring_service.proofs.AccountLemmas.{account_as, work_shares}
use Rattle.ring_service.proofs.WholeLemmas.{never_refused, two_folds, two_joined, two_reads, two_sent}
use Rattle.ring_service.proofs.whole.whole_run_over.Goals as goal

pub unreachable-requires : goal.unreachable-requires
unreachable-requires g c =
    let is = c.into_parts-producer.ensures.producer ∙ c.poll-polled.ensures.producer in
    let shares = ap (λ (p : Producer). shares_of p) is
    ∙ (c.send-2.ensures.keeps.holdings.shares ∙ (c.send.ensures.keeps.holdings.shares
    ∙ (ap (λ (p : Producer). shares_of p) c.new-client.ensures.producer
    ∙ ap (λ (v : View). v.producer.shares) c.in-Ok.ensures.producer.1))) in
    let settled = ap (λ (p : Producer). open_claims_of p) is
    ∙ (c.send-2.ensures.keeps.open_claims ∙ (c.send.ensures.keeps.open_claims
    ∙ (ap (λ (p : Producer). open_claims_of p) c.new-client.ensures.producer
    ∙ ap (λ (v : View). open_count v.producer.claims) c.in-Ok.ensures.producer.1))) in
    let made = ap (λ (t : Transmitter). board_shares_of t) c.new-conductor.ensures.transmitter
    ∙ ap (λ (v : BoardView). v.shares) c.in-Ok-new.ensures.transmitter.1 in
    let one = ap (λ (v : BoardView). v.shares) c.in-Ok-subscribe.ensures.fewer in
    let first = work_shares _ _ _ _ _ _ _ c.do_work-first.ensures.works in
    let two = ap (λ (v : BoardView). v.shares) c.in-Ok-subscribe-2.ensures.fewer in
    let second = work_shares _ _ _ _ _ _ _ c.do_work-second.ensures.works in
    let back = c.join_receiver.ensures.joined.shares in
    let all = c.join_receiver-2.ensures.joined.shares in
    never_refused _ _ _ _ c.finish.result c.in-Err._refused settled shares
    (omega (arith, made, one, first, two, second, back, all)) c.finish.ensures.refused c.in-Err.is

pub returns : goal.returns
returns g c =
    let e = c.in-Ok-finish.ensures in
    let ring = c.in-Ok.ring in
    let board = c.in-Ok-new.board in
    let p = c.into_parts-producer.result.0 in
    let r = c.into_parts-producer.result.1 in
    let cs = claims_of p in
    let end = c.join_receiver-2.new.self in
    let sent = transmitted (transmitter_of end) in
    let f = c.in-Ok-finish.finished in
    let begun : Parties = record { conductor = c.subscribe.new.self; client = c.send.new.self } in
    let halfway : Parties = record { conductor = c.do_work-first.new.self; client = c.send.new.self } in
    let resumed : Parties = record { conductor = c.subscribe-2.new.self; client = c.send-2.new.self } in
    let worked : Parties = record { conductor = c.do_work-second.new.self; client = c.send-2.new.self } in
    -- what was made
    let counters_made = c.in-Ok-subscribe.ensures.others.counters ∙ c.new-conductor.ensures.counters in
    let registry_made = ap (λ (m : CountersManager). registry_of m) counters_made ∙ c.in-Ok-new-2.ensures.registry in
    let writes_made = ap (λ (m : CountersManager). writes_of m) counters_made ∙ c.in-Ok-new-2.ensures.writes in
    let made_board = ap (λ (t : Transmitter). transmitter_view t) c.new-conductor.ensures.transmitter
    ∙ c.in-Ok-new.ensures.transmitter.1 in
    let board_made = c.in-Ok-subscribe.ensures.fewer ∙ ap fewer made_board in
    let ring_made = ap (λ (x : Consumer). consumer_view x)
    (c.in-Ok-subscribe.ensures.others.consumer ∙ c.new-conductor.ensures.consumer) ∙ c.in-Ok.ensures.consumer.1 in
    let ledger_made : ledger_of begun.conductor ≡ opening_ledger =
    λ i. record { registry = registry_made i; writes = writes_made i; board = board_made i } in
    -- the two cycles
    let early = c.do_work-first.ensures.works in
    let listening = c.in-Ok-subscribe-2.ensures in
    let late = c.do_work-second.ensures.works in
    let left : KeepsTheRest worked.conductor end = record {
      consumer = c.join_receiver-2.ensures.others.consumer ∙ c.join_receiver.ensures.others.consumer;
      counters = c.join_receiver-2.ensures.others.counters ∙ c.join_receiver.ensures.others.counters;
    } in
    let named_p : f.producer.value ≡ p = e.hands_on.producer in
    let named_c : f.conductor.value ≡ end = e.hands_on.conductor in
    let received_now = ap (λ (x : Conductor). received_of x) named_c in
    let sent_now = ap (λ (x : Conductor). replies_of x) named_c in
    let taken = ap (λ (x : Consumer). messages_of (taken_of x)) left.consumer
    ∙ two_reads _ _ _ _ early.messages late.messages (ap (λ (v : View). v.consumer.taken) ring_made) early.received
    (ap (λ (x : Consumer). taken_of x) listening.others.consumer) late.received in
    let counters_end = sym (e.hands_on.counters ∙ left.counters) in
    let sent_end = sym (ap (λ (v : BoardView). v.sent) c.join_receiver-2.ensures.joined.view
    ∙ ap (λ (v : BoardView). v.sent) c.join_receiver.ensures.joined.view) in
    let same = account_as (ledger_of resumed.conductor)
    (ap (λ (m : CountersManager). registry_of m) listening.others.counters)
    (ap (λ (m : CountersManager). writes_of m) listening.others.counters)
    (ap (λ (v : BoardView). v.sent) listening.fewer) in
    let out = account_as (ledger_of worked.conductor) (ap (λ (m : CountersManager). registry_of m) counters_end)
    (ap (λ (m : CountersManager). writes_of m) counters_end) (sent_end ∙ sym sent_now) in
    -- the client
    let last = c.into_parts-producer.ensures.producer ∙ c.poll-polled.ensures.producer in
    let is = ap (λ (x : Producer). view_of x) last in
    let made = ap (λ (x : Producer). view_of x) c.new-client.ensures.producer ∙ c.in-Ok.ensures.producer.1 in
    let two = two_sent (capacity_of ring) e.hands_on.services.drawn _ _ (client_view c.new-client.result)
    (client_view begun.client) (client_view worked.client) c.in_ok-asked.asked c.in_ok-send.field-0
    (ap (λ (v : View). v.producer.claims) made) (ap (λ (v : View). v.producer.service) made)
    (ap (λ (v : View). v.producer.joined) made) c.in_ok-asked.ensures.sent.1 c.in_ok-send.ensures.sent.1
    (λ x. ap (λ (v : View). times_drawn x v.producer) (sym is) ∙ e.hands_on.services.once x) in
    let gone = ap (λ (x : CopyReceiver). receiver_seat x) c.into_parts-producer.ensures.receiver in
    -- the receivers
    let heard = c.do_work-second.ensures.heard ∙ (ap (λ (v : BoardView). v.heard) listening.fewer
    ∙ (c.do_work-first.ensures.heard ∙ ap (λ (v : BoardView). v.heard) board_made)) in
    let joined = two_joined _ _ _ _ _ heard c.join_receiver.ensures.joined.heard
    c.join_receiver-2.ensures.joined.heard in
    let run = λ (b h s w : Parties) (x : CopyReceiver). let it : WholeRun = record {
      finished = f;
      first = c.do_work-first.result;
      second = c.do_work-second.result;
      polled = c.poll-polled.result;
      begun = record c.of-begun.result { value = b };
      halfway = record c.of-halfway.result { value = h };
      resumed = record c.of-resumed.result { value = s };
      worked = record c.of-worked.result { value = w };
      receiver = record c.of-heard.result { value = x };
    } in it in
    let concludes : Concludes c.args.early c.args.late (run begun halfway resumed worked r) = record {
      begun = record {
        sent = two.1;
        ring = ring_made;
        ledger = ledger_made;
        receiver = ap (λ (x : CopyReceiver). receiver_view x)
            (c.send.ensures.receiver ∙ c.new-client.ensures.receiver)
            ∙ (c.in-Ok-subscribe.ensures.receiver.1 ∙ ap newcomer made_board);
      };
      first = record { works = early; client = refl };
      between = record {
        conductor = listening.others;
        board = listening.fewer;
        receiver = c.send-2.ensures.receiver;
      };
      second = record { works = late; client = refl };
      producer = named_p ∙ last;
      conductor = record {
        consumer = ap (λ (x : Conductor). consumer_of x) named_c ∙ left.consumer;
        counters = ap (λ (x : Conductor). manager_in x) named_c ∙ left.counters;
      };
      claims = ap (λ (x : Producer). map settled_message (claims_of x)) named_p
          ∙ (ap (λ (v : View). map settled_message v.producer.claims) is ∙ two.2);
      ordered = subst (λ (x : Producer). AreOrdered 1024 0 (claims_of x)) (sym named_p)
          (subst (λ n. AreOrdered n 0 cs) c.in-Ok.ensures.ring.0
          (subst (λ n. AreOrdered (capacity_of ring) n cs) c.in-Ok.ensures.ring.1 e.headline.ordered));
      received = ap messages_of received_now ∙ taken;
      client = ap (λ (x : Producer). service_of x) named_p ∙ ap (λ (v : View). v.producer.service) is ∙ two.3;
      alone = ap (λ (x : Producer). services_of x) named_p ∙ ap (λ (v : View). v.producer.joined) is ∙ two.4;
      services = subst (λ (x : Producer × Conductor). Serves 1024 (view_of x.0) (ring_view x.1) f.rest)
          (λ i. (sym named_p i, sym named_c i))
          (subst (λ n. Serves n (view_of p) (ring_view end) f.rest) c.in-Ok.ensures.ring.0 e.hands_on.services);
      values = subst (λ (x : CounterValues × CountersManager). IsManagerOf x.0 x.1)
          (λ i. (sym e.hands_on.values i, counters_end i)) c.do_work-second.ensures.conductor.2;
      counted = e.hands_on.received ∙ sym (ap length received_now);
      whole = subst (λ (x : Producer). IsWhole (sent_by x) (messages_of (received_of f.conductor.value)) f.rest)
          (sym named_p) (subst (λ (x : Conductor). IsWhole (sent_by p) (messages_of (received_of x)) f.rest)
          (sym named_c) e.headline.whole);
      folded = two_folds (ledger_of begun.conductor) (ledger_of halfway.conductor) (ledger_of resumed.conductor)
          (ledger_of worked.conductor) (fresh_account 4 50) c.args.early c.args.late (messages_of early.messages)
          (messages_of late.messages) (ap account_in ledger_made) early.folded same late.folded ∙ out;
      board = subst (λ l. IsClosed 256 0 l (closed_words f.board)) (sym sent_now)
          (subst (λ n. IsClosed n 0 sent (closed_words f.board)) c.in-Ok-new.ensures.board.0
          (subst (λ n. IsClosed (board_capacity_of board) n sent (closed_words f.board))
          c.in-Ok-new.ensures.board.1 e.hands_on.replies.1));
      polled = subst (λ m. IsHeard 0 (client_seat worked.client) m c.poll-polled.result) (sym gone)
          (subst (λ n. IsHeard n (client_seat worked.client) (client_seat c.poll-polled.new.self)
          c.poll-polled.result) two.0 c.poll-polled.ensures.heard);
      joined = ap (λ (x : Conductor). joined_by x) named_c
          ∙ (joined ∙ ap (λ (v : BoardView). as_joined (receiver_view r) ∷ as_joined v ∷ []) listening.receiver.1);
      runs = subst (λ (x : Conductor). AreAllRuns (replies_of x) (joined_by x)) (sym named_c) e.headline.runs;
    } in
    subst (λ (x : Parties × Parties × Parties × Parties × CopyReceiver). Concludes c.args.early c.args.late
    (run x.0 x.1 x.2 x.3 x.4)) (λ i. (
      sym c.of-begun.ensures i,
      sym c.of-halfway.ensures i,
      sym c.of-resumed.ensures i,
      sym c.of-worked.ensures i,
      sym c.of-heard.ensures i,
    )) concludes
