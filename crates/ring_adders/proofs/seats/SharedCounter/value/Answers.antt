use Rattle.std.proofs.Common.{ℤ, List, sym, subst, ap, ◌∙◌, arith, rules, w64}
use Rattle.std.specs.Int.{cast_signed}
use Rattle.ring_layout.specs.Lists.{Begins}
use Rattle.ring_adders.{specs.declared.view.AdderView.AdderView, specs.Sums.sum_of, proofs.StepLemmas.loads}
use Rattle.ring_adders.proofs.seats.SharedCounter.value.Goals as goal

pub load-requires : goal.load-requires
load-requires c = (c.requires, (let h = c.args.self.now.counts in omega arith), loads _ _ _ _)

pub returns-clause-sees : goal.returns-clause-sees
returns-clause-sees c =
    let step = c.load.ensures.2.0 in
    let all = ap (λ (v : AdderView). v.seen) step.view in
    record {
      later = subst (λ (l : List ℤ). Begins c.args.adder.now.seat.me.0.seen l) (sym all) step.later;
      value_is = search rules ∙ c.cast_signed.ensures ∙ ap (cast_signed w64) step.sum ∙ ap sum_of (sym all);
      added = ap (λ (v : AdderView). v.added) step.view;
    }

pub returns-clause-total : goal.returns-clause-total
returns-clause-total c =
    λ whole. search rules ∙ c.cast_signed.ensures
    ∙ ap (cast_signed w64) (c.load.ensures.2.0.total (sym c.args.adder.now.counted ∙ whole))
