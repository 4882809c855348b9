use Rattle.std.proofs.Common.{ap, sym, rules, ◌∙◌, arith}
use Rattle.ring_words.specs.Open.{ClaimAt}
use Rattle.ring_table.specs.declared.view.View.{View}
use Rattle.ring_rings.proofs.MadeLemmas.{keeps_claims, made_claims, made_consumes, made_few, made_matches, made_message, made_new, moved_newest, moved_opened}
use Rattle.ring_rings.proofs.SentLemmas.{claim_sends_none}
use Rattle.ring_rings.proofs.ring.Ring.try_claim.Goals as goal

pub overflow_add-producer : goal.overflow_add-producer
overflow_add-producer g c =
    let moved = c.in_ok-admission.ensures.told.0 in
    let made = moved_opened moved c.args.producer.now.known.rising c.store_headers.new.seat.me.0
    (c.store_headers.ensures.opened _ _ (moved_newest moved)) in
    let few = made_few made c.args.producer.now.known in omega arith

pub invariant_of-producer-2 : goal.invariant_of-producer-2
invariant_of-producer-2 g c =
    let p = c.args.producer.now in
    let moved = c.in_ok-admission.ensures.told.0 in
    let made = moved_opened moved p.known.rising c.store_headers.new.seat.me.0
    (c.store_headers.ensures.opened _ _ (moved_newest moved)) in
    record {
      known = made_matches made p.known;
      produces = (
        made_consumes made ∙ p.produces.0,
        c.store_headers.ensures.seat.slots ∙ c.in_ok-admission.ensures.seat.slots ∙ p.produces.1,
      );
      home = c.store_headers.ensures.seat.out ∙ c.in_ok-admission.ensures.seat.out ∙ p.home;
    }

pub returns : goal.returns
returns g c =
    let made = moved_opened c.in_ok-admission.ensures.told.0 c.args.producer.now.known.rising
    c.store_headers.new.seat.me.0
    (c.store_headers.ensures.opened _ _ (moved_newest c.in_ok-admission.ensures.told.0)) in
    let h = made_message made in
    record {
      producer = search rules;
      sent = claim_sends_none _ _ _ _ _ _ (made_claims made);
      message = record {
        nth = h.nth;
        claim = h.claim;
        there = h.there;
        at_place = h.at_place ∙ ap (λ (t : ClaimAt). t.place) (sym c.new.ensures);
        holds = (search rules);
      };
      claimed = (let view = made.view in search rules);
      refused = search rules;
      opened = rw c.new.ensures (made_new made);
      keeps = record { claims = keeps_claims _ (made_claims made); shares = ap (λ (u : View). u.producer.shares) made.view };
    }
