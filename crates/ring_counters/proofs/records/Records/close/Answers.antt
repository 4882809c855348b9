use Rattle.std.proofs.Common.{ℕ, ◌+◌, ◌∙◌, sym, subst, refl, arith}
use Rattle.ring_counters.specs.Registry.{Registry, counter_at}
use Rattle.ring_counters.proofs.ListingLemmas.{ClosedUpTo, owned_is_allocated, few_freed, closed_one_more, closed_one_less, closed_all, counted_all}
use Rattle.ring_counters.proofs.records.Records.close.Goals as goal
use Rattle.ring_counters.proofs.records.Records.close.Goals.{then-is_owned, else-is_owned}

pub loop-id-init : goal.loop-id-init
loop-id-init c = record {
  changed = refl;
  counted = refl;
  others = λ k le. refl;
  size = refl;
  bound = c.used-id-end.ensures.most;
  behind = c.used-id-end.ensures.unused;
}

pub is_owned-requires : goal.is_owned-requires
is_owned-requires c = omega (arith, c.loop-id.invariant.size, c.loop-id.invariant.bound)

pub reclaim-requires : goal.reclaim-requires
reclaim-requires c = record {
  now = c.requires;
  allocated =
      owned_is_allocated c.args.owner (counter_at c.loop-id.self c.loop-id.id)
      (sym c.is_owned.ensures ∙ c.if-is_owned.true);
}

pub overflow_add-freed : goal.overflow_add-freed
overflow_add-freed c =
    record {
      fits =
          omega (arith, few_freed _ _ _ _ _ _ _ c.loop-id.invariant, c.loop-id.invariant.bound, c.used-id-end.type_inv);
    }

pub loop-id-preserved : goal.loop-id-preserved
loop-id-preserved c =
    elim c.if-is_owned.branch [
      | then-is_owned w ↦
          subst (λ (x : Registry × ℕ). ClosedUpTo c.args.self.now x.0 c.args.now c.args.owner
          (c.loop-id.id + 1) x.1 c.used-id-end.result)
          (λ i. (sym (w.self-is ∙ w.reclaim.ensures) i, sym w.freed-is i))
          (closed_one_more _ _ _ _ _ _ _ c.loop-id.invariant (sym c.is_owned.ensures ∙ w.if-is_owned.true))
      | else-is_owned w ↦
          subst (λ (x : Registry × ℕ). ClosedUpTo c.args.self.now x.0 c.args.now c.args.owner
          (c.loop-id.id + 1) x.1 c.used-id-end.result) (λ i. (sym w.self-is i, sym w.freed-is i))
          (closed_one_less _ _ _ _ _ _ _ c.loop-id.invariant (sym c.is_owned.ensures ∙ w.if-is_owned.false))
    ]

pub returns : goal.returns
returns c = record {
  freed = counted_all _ _ _ _ _ _ _ c.loop-id.invariant c.loop-id-test.false c.loop-id.auto.id-end;
  changes = closed_all _ _ _ _ _ _ _ c.loop-id.invariant c.loop-id-test.false c.loop-id.auto.id-end;
}
