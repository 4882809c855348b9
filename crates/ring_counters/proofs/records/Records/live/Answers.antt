use Rattle.std.proofs.Common.{ℕ, ◌+◌, ◌≤◌, ◌∙◌, ap, sym, subst, arith, Vec, Global}
use Rattle.ring_counters.specs.{declared.info.CounterInfo.CounterInfo, Infos.AreInfos}
use Rattle.ring_counters.proofs.ListingLemmas.{live_below, listed_one_more, listed_one_less, listed_all}
use Rattle.ring_counters.proofs.records.Records.live.Goals as goal
use Rattle.ring_counters.proofs.records.Records.live.Goals.{then-is_live+in_ok-info+in_ok-push, else-is_live}

pub loop-id-preserved : goal.loop-id-preserved
loop-id-preserved c =
    elim c.if-is_live.branch [
      | then-is_live+in_ok-info+in_ok-push w ↦
          subst (λ l. AreInfos l (live_below c.args.self.now (c.loop-id.id + 1)))
          (sym (ap (λ (v : Vec CounterInfo Global). v.items) w.infos-is ∙ w.in_ok-push.ensures.items))
          (listed_one_more c.args.self.now c.loop-id.infos.items c.loop-id.id c.loop-id.invariant _
          (sym c.is_live.ensures ∙ w.if-is_live.true) w.in_ok-info.ensures)
      | else-is_live w ↦
          subst (λ l. AreInfos l (live_below c.args.self.now (c.loop-id.id + 1)))
          (sym (ap (λ (v : Vec CounterInfo Global). v.items) w.infos-is))
          (listed_one_less c.args.self.now c.loop-id.infos.items c.loop-id.id c.loop-id.invariant
          (sym c.is_live.ensures ∙ w.if-is_live.false))
    ]

pub returns : goal.returns
returns c =
    listed_all c.args.self.now c.loop-id.infos.items c.loop-id.id c.loop-id.invariant
    (omega (arith, c.used-id-end.ensures.most, c.loop-id.auto.id-end))
    (λ (k : ℕ) (le : c.loop-id.id ≤ k). c.used-id-end.ensures.unused k (omega (arith, c.loop-id-test.false)))
