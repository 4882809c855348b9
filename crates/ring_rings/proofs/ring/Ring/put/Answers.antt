use Rattle.std.proofs.Common.{◌≡◌, refl, sym, ap, ◌∙◌, subst, arith}
use Rattle.ring_layout.specs.{declared.message.Message.Message, History.overwritten}
use Rattle.ring_layout.proofs.WordBytes.{length-overwritten}
use Rattle.ring_table.specs.{declared.claim.StagedClaim.StagedClaim, declared.view.View.View, OpenClaims.open_count}
use Rattle.ring_table.specs.{ProducerSteps.HasClaimAt, ProducerSteps.IsStagedOpen, Staged.AreRising, Staged.AreStored}
use Rattle.ring_rings.specs.{Bodies.loaded, Bodies.put_at, Reading.messages_of, Ring.message}
use Rattle.ring_rings.proofs.MadeLemmas.{still_open}
use Rattle.ring_rings.proofs.{CountLemmas.count_kept, CountLemmas.stored_kept, SentLemmas.change_sends_none}
use Rattle.ring_rings.proofs.{RisingLemmas.rising_kept, PutLemmas.has_changed, PutLemmas.has_other}
use Rattle.ring_table.specs.{Changes.changed, Passing.placed_message, Passing.shown_at}
use Rattle.ring_rings.proofs.ring.Ring.put.Goals as goal

pub put_bytes-requires-clause-place : goal.put_bytes-requires-clause-place
put_bytes-requires-clause-place g c = rw c.place.ensures c.requires.claim.limit

pub invariant_of-producer : goal.invariant_of-producer
invariant_of-producer g c =
    let p = c.args.producer.now in
    let put = c.put_bytes.ensures.put in
    let f : StagedClaim → StagedClaim = put_at c.args.offset c.args.bytes.now in
    let claims = ap (λ (v : View). v.producer.claims) put.view in
    record {
      known = record {
        shares_are = ap (λ (v : View). v.producer.shares) put.view ∙ p.known.shares_are;
        some = p.known.some;
        most = p.known.most;
        counted = ap open_count claims ∙ count_kept f c.place.result (λ d. refl) p.seat.me.0.producer.claims
            ∙ p.known.counted;
        rising = subst AreRising (sym claims) (rising_kept f c.place.result
            (λ d. refl) p.seat.me.0.producer.claims p.known.rising);
        stored = subst AreStored (sym claims) (stored_kept f c.place.result
            (λ d. refl) p.seat.me.0.producer.claims p.known.stored);
        own = λ all. ap (λ (v : View). v.producer.seen_tail) put.view ∙ p.known.own all;
        whole = p.known.whole;
        limit = p.known.limit;
      };
      produces = (ap (λ (v : View). v.consumes) put.view ∙ p.produces.0, c.put_bytes.ensures.seat.slots ∙ p.produces.1);
      home = c.put_bytes.ensures.seat.out ∙ p.home;
    }

pub returns-clause-claim : goal.returns-clause-claim
returns-clause-claim g c =
    let h = c.requires.claim in
    let t = c.args.claim.now in
    let v : View = c.args.producer.now.seat.me.0 in
    let put = c.put_bytes.ensures.put in
    let f : StagedClaim → StagedClaim = put_at c.args.offset c.args.bytes.now in (
      refl,
      record {
        index = h.index;
        message = h.message;
        limit = h.limit;
        claim = subst (λ (u : View). HasClaimAt u t.place (IsStagedOpen t.type_id t.len)) (sym put.view)
            (rw c.place.ensures (has_changed t.place f (λ d. refl) (loaded put.loads v) (IsStagedOpen t.type_id t.len)
            (IsStagedOpen t.type_id t.len)
            (record {
              nth = h.claim.nth;
              claim = h.claim.claim;
              there = h.claim.there;
              at_place =
                  h.claim.at_place;
              holds = h.claim.holds;
            })
            (λ d is. record {
              stage = is.stage;
              type_is = is.type_is;
              len_is =
                  length-overwritten c.args.offset c.args.bytes.now d.message.body (omega arith) ∙ is.len_is;
            })));
      },
    )

pub returns-clause-others : goal.returns-clause-others
returns-clause-others g c =
    let put = c.put_bytes.ensures.put in
    record {
      rising = c.args.producer.now.known.rising;
      claims = λ t h other.
          still_open h (has_other c.args.producer.now.seat.me.0 c.put_bytes.new.seat.me.0 c.place.result t.place
          (put_at c.args.offset c.args.bytes.now) (IsStagedOpen t.type_id t.len)
          (ap (λ (v : View). v.producer.claims) put.view) h.claim (λ here. other (here ∙ c.place.ensures)));
    }

pub returns-clause-sent : goal.returns-clause-sent
returns-clause-sent g c =
    let p = c.args.producer.now in
    let t = c.args.claim.now in
    let f : StagedClaim → StagedClaim = put_at c.args.offset c.args.bytes.now in
    let h = c.requires.claim.claim in
    change_sends_none p.seat.me.0 _ t.place t.type_id t.len f p.known.rising
    (ap (λ (v : View). v.producer.claims) c.put_bytes.ensures.put.view
    ∙ ap (λ n. changed n f p.seat.me.0.producer.claims) c.place.ensures) h
    (ap (λ s. messages_of (shown_at s (placed_message (f h.claim)))) h.holds.stage)

pub returns-clause-message : goal.returns-clause-message
returns-clause-message g c m h =
    let t = c.args.claim.now in
    let put = c.put_bytes.ensures.put in
    let now : Message → Message = λ x. message x.type_id (overwritten c.args.offset c.args.bytes.now x.body) in
    subst (λ (u : View). HasClaimAt u t.place (λ d. d.message ≡ now m)) (sym put.view)
    (rw c.place.ensures (has_changed t.place (put_at c.args.offset c.args.bytes.now) (λ d. refl)
    (loaded put.loads c.args.producer.now.seat.me.0) (λ d. d.message ≡ m) (λ d. d.message ≡ now m)
    (record { nth = h.nth; claim = h.claim; there = h.there; at_place = h.at_place; holds = h.holds })
    (λ d is. ap now is)))
