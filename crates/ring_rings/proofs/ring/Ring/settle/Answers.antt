use Rattle.std.proofs.Common.{ap, ◌∙◌, arith}
use Rattle.ring_table.specs.{declared.view.View.View, declared.claim.Stage.TheVariants.Stored, Changes.staged}
use Rattle.ring_table.specs.ProducerSteps.{IsStagedOpen}
use Rattle.ring_rings.proofs.{MadeLemmas.still_open, PutLemmas.has_other}
use Rattle.ring_rings.proofs.CountLemmas.{none_open, settles_one, matches_settled}
use Rattle.ring_rings.proofs.ring.Ring.settle.Goals as goal

pub overflow_sub-producer : goal.overflow_sub-producer
overflow_sub-producer g c =
    let p = c.args.producer.now in
    let counted = p.known.counted in
    let settled = settles_one p.seat.me.0 c.args.claim.place c.place.result c.args.claim.type_id c.args.claim.len
    c.args.state c.requires.claim.claim c.place.ensures c.store_settled_header.ensures.rising
    (none_open c.args.state c.requires.settled) in
    omega arith

pub invariant_of-producer : goal.invariant_of-producer
invariant_of-producer g c =
    let p = c.args.producer.now in
    let e = c.store_settled_header.ensures in
    record {
      known = matches_settled p.seat.me.0 _ p.shares p.open_claims p.own_tail c.args.claim.place c.place.result
          c.args.claim.type_id c.args.claim.len c.args.state p.known c.requires.claim.claim c.place.ensures e.rising
          e.view (none_open c.args.state c.requires.settled);
      produces = (ap (λ (v : View). v.consumes) e.view ∙ p.produces.0, e.seat.slots ∙ p.produces.1);
      home = e.seat.out ∙ p.home;
    }

pub returns-clause-others : goal.returns-clause-others
returns-clause-others g c =
    let e = c.store_settled_header.ensures in
    record {
      rising = e.rising;
      claims = λ t h other.
          still_open h (has_other c.args.producer.now.seat.me.0 c.store_settled_header.new.seat.me.0 c.place.result
          t.place (staged (Stored c.args.state)) (IsStagedOpen t.type_id t.len)
          (ap (λ (v : View). v.producer.claims) e.view) h.claim (λ here. other (here ∙ c.place.ensures)));
    }
