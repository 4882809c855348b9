use Rattle.std.proofs.Common.{◌∙◌, ◌+◌, [], ◌∷◌, ◌++◌, length, ap, arith}
use Rattle.ring_table.specs.Owners.{interleaved}
use Rattle.ring_rings.specs.Seats.{claims_of, open_claims_of, shares_of, taken_of}
use Rattle.ring_board.specs.{Seats.receiver_view, Views.as_joined}
use Rattle.ring_service.specs.{Finishing.joined_by, Asking.service_of, Asking.services_of}
use Rattle.ring_storm.{specs.Storming.sent_by, proofs.SeatLemmas.joins_service}
use Rattle.ring_service.proofs.GatheringLemmas.{gathered}
use Rattle.ring_storm.proofs.shared.Shared.join_client.Goals as goal

pub returns-clause-seats : goal.returns-clause-seats
returns-clause-seats g c =
    let both = gathered _ _ _ _ c.join.ensures.joined in
    let is = c.into_parts-producer.ensures.producer in
    let old = c.args.endpoints.now.producer in
    let shares = both.shares ∙ ap (λ p. shares_of old + shares_of p) is in
    let one = c.requires.client.0.1 in
    let open_claims = both.open_claims ∙ ap (λ p. open_claims_of old + open_claims_of p) is in
    let settled = c.requires.client.0.2 in
    let receiver = c.join_receiver.ensures in
    record {
      producers = omega (arith, shares, one);
      receivers = receiver.joined.shares;
      open_claims = omega (arith, open_claims, settled);
      sent = both.claims ∙ ap (λ p. sent_by old + sent_by p) is;
      claims = both.together ∙ ap (λ p. interleaved (claims_of old) (claims_of p)) is;
      joined = receiver.joined.heard ∙ ap (λ r. joined_by c.args.endpoints.now.conductor ++ as_joined (receiver_view r) ∷ [])
          c.into_parts-producer.ensures.receiver;
      services = joins_service _ _ _ _ c.join.ensures.joined (ap services_of is ∙ c.requires.client.0.4)
          ∙ ap (λ p. services_of old ++ service_of p ∷ []) is;
      taken = ap (λ x. length (taken_of x)) receiver.others.consumer;
    }
