use Rattle.std.proofs.Common.{◌≡◌, refl, subst, arith}
use Rattle.ring_board.specs.{Seats.receiver_view, Views.as_joined}
use Rattle.ring_service.specs.Asking.{producer_of, receiver_of, service_of}
use Rattle.ring_storm.{specs.Storming.history_of, specs.Turns.AreAnswered, proofs.TurnLemmas.all_turns}
use Rattle.ring_storm.proofs.levels.gather.Goals as goal

pub returns-clause-end : goal.returns-clause-end
returns-clause-end g c =
    let before = c.requires.end in
    let worked = c.requires.worked in
    let e = c.join_client-replies.ensures in
    let seats = e.seats in
    let client = c.args.client in
    let commands = c.args.shared.plan.commands in
    let counted = e.seen in
    let few = worked.seen in
    record {
      endpoints = e.endpoints;
      sent = omega (arith, before.sent, seats.sent, worked.sent.0);
      seen = omega (arith, before.seen, counted, few);
      done = λ none.
          let done = before.done none in
          let same = c.from.ensures in
          let enough = c.if-replies-from.false in
          let all : client.seen ≡ commands = omega (arith, same, enough, counted, few) in
          let answered = subst (λ i. AreAnswered i client.seen (history_of client)) worked.index worked.answered in (
            omega (arith, done.0, seats.taken),
            omega (arith, done.1, counted, all),
            all_turns commands c.args.index client.seen (history_of client) _ _ _ _
                (as_joined (receiver_view (receiver_of client.client))) _ _ (service_of (producer_of client.client))
                done.2
                (record {
                  answered = answered;
                  counted = all;
                  few = worked.sent;
                  rising = c.requires.client.0.3.0;
                })
                (record {
                  together = seats.claims;
                  joined = seats.joined;
                  copies = refl;
                  more = seats.services;
                  draws = refl;
                }),
          );
    }
