use Rattle.std.proofs.Common.{ap, ◌∙◌, arith, subst, sym}
use Rattle.ring_table.specs.{declared.view.View.View, Staged.AreRising, ProducerSteps.IsStagedOpen}
use Rattle.ring_rings.proofs.{MadeLemmas.still_open, SentLemmas.interleaved_merged}
use Rattle.ring_rings.proofs.JoinLemmas.{joined_claims, joined_few, joined_matches}
use Rattle.ring_rings.proofs.RisingLemmas.{has_first, has_second, two_apart}
use Rattle.ring_rings.proofs.producer.many_to_one.Ring+ManyToOne+B.join.Goals as goal

pub overflow_add-producer-2 : goal.overflow_add-producer-2
overflow_add-producer-2 g c =
    let p = c.args.producer.now in
    let q = c.args.other in
    let few = joined_few c.args.self.now.capacity c.load_tail-producer.result p.seat.me.0 q.seat.me.0
    c.join_producer.new.producer.me.0 c.load_tail-producer.new.producer.me.0 c.join_producer.ensures.view
    c.load_tail-producer.ensures.told p.shares p.open_claims p.own_tail q.shares q.open_claims q.own_tail p.known
    q.known in
    omega arith

pub invariant_of-producer : goal.invariant_of-producer
invariant_of-producer g c =
    let p = c.args.producer.now in
    let q = c.args.other in
    let joined = c.join_producer.ensures in
    let loaded = c.load_tail-producer.ensures in
    record {
      known = joined_matches c.args.self.now.capacity c.load_tail-producer.result p.seat.me.0 q.seat.me.0
          c.join_producer.new.producer.me.0 c.load_tail-producer.new.producer.me.0 joined.view loaded.told p.shares
          p.open_claims p.own_tail q.shares q.open_claims q.own_tail p.known q.known;
      produces = (
        ap (λ (v : View). v.consumes) loaded.told.view ∙ ap (λ (v : View). v.consumes) joined.view
            ∙ p.produces.0,
        loaded.seat.slots ∙ joined.seat.slots ∙ p.produces.1,
      );
      home = loaded.seat.out ∙ joined.seat.out ∙ p.home;
    }

pub returns-clause-keeps : goal.returns-clause-keeps
returns-clause-keeps g c =
    let p : View = c.args.producer.now.seat.me.0 in
    let q : View = c.args.other.seat.me.0 in
    let u : View = c.load_tail-producer.new.producer.me.0 in
    let loaded = c.load_tail-producer.ensures.told in
    let same = ap (λ (v : View). v.producer.claims) loaded.view in
    let claims = joined_claims c.args.self.now.capacity c.load_tail-producer.result p q
    c.join_producer.new.producer.me.0 u c.join_producer.ensures.view loaded in
    record {
      first = λ t h. still_open h (has_first p q u claims t.place (IsStagedOpen t.type_id t.len) h.claim);
      second = λ t h. still_open h (has_second p q u claims t.place (IsStagedOpen t.type_id t.len) h.claim);
      apart = λ t r h k. two_apart p q u claims (subst AreRising (sym same) loaded.rising) t.place r.place
          (IsStagedOpen t.type_id t.len) (IsStagedOpen r.type_id r.len) h.claim k.claim;
    }

pub returns-clause-sent : goal.returns-clause-sent
returns-clause-sent g c =
    let p : View = c.args.producer.now.seat.me.0 in
    let q : View = c.args.other.seat.me.0 in
    interleaved_merged p.producer.claims q.producer.claims c.load_tail-producer.new.producer.me.0.producer.claims
    c.args.other.known.rising (joined_claims c.args.self.now.capacity c.load_tail-producer.result p q
    c.join_producer.new.producer.me.0 c.load_tail-producer.new.producer.me.0 c.join_producer.ensures.view
    c.load_tail-producer.ensures.told)
