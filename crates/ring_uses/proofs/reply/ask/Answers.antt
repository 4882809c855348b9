use Rattle.std.proofs.Common.{◌∙◌, [], ◌∷◌, ◌++◌, List, ap, subst, sym}
use Rattle.ring_layout.specs.declared.message.Message.{Message}
use Rattle.ring_rings.specs.{declared.ring.Consumer.Consumer, declared.ring.Producer.Producer, Reading.messages_of}
use Rattle.ring_rings.specs.{Ring.received, Ring.sent, Ring.AreMerged, Ring.IsWhole, Seats.taken_of}
use Rattle.ring_board.specs.declared.board.CopyReceiver.{CopyReceiver}
use Rattle.ring_board.specs.{Board.copied, Board.subscribed_at, declared.shared.view.View.View as BoardView}
use Rattle.ring_counters.specs.{declared.manager.CountersManager.CountersManager, Manager.registry_of, Manager.writes_of}
use Rattle.ring_service.specs.Account.{Account, account_of, messages_in, reply_message}
use Rattle.ring_service.specs.{Asking.receiver_of, Finishing.replies_of, declared.conductor.Conductor.Conductor}
use Rattle.ring_service.specs.{Conducting.ledger_of, Conducting.received_of, Fold.at_moment, Service.sent_by}
use Rattle.ring_service.proofs.AccountLemmas.{account_as}
use Rattle.ring_ends.specs.Conducting.{SeatedClient}
use Rattle.ring_uses.specs.{Laps.messages_of as copied_messages, Reply.replies_to, Reply.request_with}
use Rattle.ring_uses.proofs.ReplyLemmas.{copied_is_transmitted, merged_alone, one_copy, one_reply}
use Rattle.ring_uses.proofs.reply.ask.Goals as goal

pub returns-in-Ok : goal.returns-in-Ok
returns-in-Ok c =
    let made = c.in_ok-conductor.ensures in
    let hired = c.in_ok-client.ensures in
    let worked = c.do_work.ensures in
    let id = c.in_ok-correlation.correlation in
    let reply = c.in-Answered.reply in
    -- what was sent
    let asked = ap sent c.in-Answered.ensures.keeps.producer
    ∙ c.in_ok-correlation.ensures.sends.0
    ∙ ap (λ l. l ++ request_with id ∷ []) hired.sent.0 in
    let none = ap sent worked.takes.rest.producer ∙ hired.sent.1 ∙ made.empty.0 in
    let mine = sent_by c.poll.new.self.client in
    let all = sent c.join.new.self.producer in
    let merged = subst (λ (l : List Message). AreMerged l mine all) none c.join.ensures.sent in
    let sends = merged_alone mine all merged ∙ asked in
    -- what was received
    let ms = worked.serves.messages in
    let start = ap (λ (x : Consumer). received x) hired.hired.rest.consumer ∙ made.empty.1 in
    let taken = ap (λ (x : Consumer). messages_of (taken_of x)) c.join.ensures.taken.receiver.others.consumer
    ∙ worked.serves.more ∙ ap (λ l. l ++ ms) start in
    let whole = c.in-Ok.ensures.headline.whole in
    -- what was transmitted
    let records = replies_of c.do_work.new.self.conductor in
    let unused = hired.hired.rest.counters in
    let silent = ap (λ (v : BoardView). v.sent) hired.hired.replies_left ∙ made.empty.2 in
    let fresh = account_as (ledger_of c.client.new.self.conductor)
    (ap (λ (m : CountersManager). registry_of m) unused ∙ made.made.registry)
    (ap (λ (m : CountersManager). writes_of m) unused ∙ made.made.writes) silent in
    let replies = ap (λ (a : Account). a.replies)
    (worked.serves.folded ∙ ap (λ (a : Account). account_of a (at_moment 0 ms)) fresh) in
    -- what was polled
    let polled = c.in-Answered.ensures.polls in
    let old = receiver_of c.send.new.self.client in
    let new = receiver_of c.poll.new.self.client in
    let no_copies = ap (λ (r : CopyReceiver). copied r) c.in_ok-correlation.ensures.keeps.receiver
    ∙ ap (λ (v : BoardView). v.copies) hired.hired.replies_right in
    let there = copied_is_transmitted records (subscribed_at new) reply old new no_copies polled.0
    c.join.ensures.taken.receiver.runs in
    let one = one_reply (request_with id) ms whole.unread records (reply_message reply)
    (ap (λ l. l ++ whole.unread) (sym taken) ∙ whole.all ∙ sends) replies there in
    -- what the ends say that the answer names
    let out = c.in-Ok.ensures.hands_on in
    let by_producer = out.producer in
    let by_conductor = out.conductor in
    let received_in = ap (λ (x : Conductor). messages_of (received_of x)) by_conductor in
    let replies_in = ap (λ (x : Conductor). messages_in (replies_of x)) by_conductor
    ∙ ap (λ (v : BoardView). messages_in v.sent) c.join.ensures.taken.receiver.joined_is in
    let copies = one_copy reply old new no_copies polled.0 in
    record {
      sends = ap sent by_producer ∙ sends;
      receives = received_in ∙ (taken ∙ one.0);
      whole = subst (λ (x : Producer). IsWhole (sent x) (messages_of (received_of c.in-Ok.finished.conductor.value))
          c.in-Ok.finished.rest) (sym by_producer)
          (subst (λ (x : Conductor). IsWhole all (messages_of (received_of x))
          c.in-Ok.finished.rest) (sym by_conductor) whole);
      replies = replies_in ∙ (replies ∙ ap replies_to (sym (received_in ∙ taken)));
      transmits = replies_in ∙ one.1;
      copies = ap (λ (k : SeatedClient). copied_messages (copied (receiver_of k.client))) c.of-named.ensures ∙ copies;
      correlated = polled.1;
    }
