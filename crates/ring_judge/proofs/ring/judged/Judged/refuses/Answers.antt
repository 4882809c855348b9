use Rattle.std.proofs.Common.{◌≡◌, ◌<◌, ◌-◌, ◌∙◌, ap, refl, sym, get_or, arith, length, leb-true}
use Rattle.std.proofs.lemmas.{Bool.iff_false, List.get_or_default}
use Rattle.ring_judge.specs.{declared.ring.RingClaim.RingClaim, Judged.state_of}
use Rattle.ring_judge.proofs.RefusalLemmas.{answered, never_full, not_full_more}
use Rattle.ring_judge.proofs.ring.judged.Judged.refuses.Goals as goal
use Rattle.ring_judge.proofs.ring.judged.Judged.refuses.Goals.{then-loop-count-test+else-index-producer, else-loop-count-test}

pub returns : goal.returns
returns c = let its = c.args.self.now in let s = state_of its in let count = c.loop-count.count in
    let own : (d : RingClaim) → 0 < count → (get_or its.claims.items (count - 1) d).producer ≡ c.args.producer =
    λ d some. elim c.loop-count-test.branch [
      | then-loop-count-test+else-index-producer w ↦
          let lt : count - 1 < length its.claims.items = omega (arith, some) in
          let at = get_or_default its.claims.items (count - 1) d w.index.result.now lt in
          ap (λ (x : RingClaim). x.producer) (at ∙ sym w.index.ensures) ∙ w.if-index-producer.false
      | else-loop-count-test w ↦ absurd (omega (arith, some))
    ] in
    answered c.is_full-2.result c.is_full-2.ensures
    (λ full. record {
      allowed = record {
        short = leb-true _ _ (sym c.is_length.ensures ∙ c.if-not-is_length.false);
        count = count;
        within = c.loop-count.invariant.within;
        since = c.loop-count.invariant.since;
        full = full;
      };
      judged = c.requires;
      capacity = refl;
      state = refl;
    })
    (λ never. never_full its.capacity s c.args.producer c.args.length count c.loop-count.invariant never own)

pub loop-count-preserved : goal.loop-count-preserved
loop-count-preserved c = let its = c.args.self.now in let s = state_of its in let count = c.loop-count.count in
    not_full_more its.capacity s c.args.producer c.args.length count c.index.result.now c.loop-count.invariant
    (omega arith) (λ is. c.if-index-producer.true (ap (λ (x : RingClaim). x.producer) c.index.ensures ∙ is))
    (iff_false c.is_full.ensures c.if-is_full.false)
