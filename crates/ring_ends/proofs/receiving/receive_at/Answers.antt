use Rattle.std.proofs.Common.{◌-◌}
use Rattle.std.proofs.lemmas.Result.{IfOk-weaker}
use Rattle.ring_board.specs.Seats.{IsReceiverOf}
use Rattle.ring_ends.proofs.HeldLemmas.{count_stays, of_stays, stays, vacated}
use Rattle.ring_ends.proofs.receiving.receive_at.Goals as goal

pub of-received-requires : goal.of-received-requires
of-received-requires c =
    c.requires (c.args.number - 1) c.in_ok-receiver.receiver c.in_ok-receiver.ensures.taken.here.has

pub put_back-requires : goal.put_back-requires
put_back-requires c = vacated _ _ _ _ c.in_ok-receiver.ensures.taken

pub returns-clause-receivers : goal.returns-clause-receivers
returns-clause-receivers c =
    let held = stays _ _ _ _ _ _ c.in_ok-receiver.ensures.taken c.put_back.ensures in
    of_stays (IsReceiverOf c.args.board.now) _ _ _ _ _ c.requires held c.of-received.ensures.receiver

pub returns-clause-told : goal.returns-clause-told
returns-clause-told c =
    let held = stays _ _ _ _ _ _ c.in_ok-receiver.ensures.taken c.put_back.ensures in
    IfOk-weaker c.of-received.result _ _
    (λ told h. record {
      before = c.in_ok-receiver.receiver;
      after = c.of-received.new.receiver;
      told_it = h;
      stays =
          held;
    }) c.of-received.ensures.told

pub returns-clause-count : goal.returns-clause-count
returns-clause-count c = count_stays _ _ _ _ _ (stays _ _ _ _ _ _ c.in_ok-receiver.ensures.taken c.put_back.ensures)
