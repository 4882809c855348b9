use Rattle.std.proofs.Common.{◌≡◌, [], ◌∷◌, ◌++◌, ap, ◌∙◌, arith, rules, w64}
use Rattle.std.{specs.Int.cast_signed, specs.Int.cast_unsigned, proofs.lemmas.Int.to_z-of_z}
use Rattle.ring_adders.{specs.declared.view.AdderView.AdderView, proofs.StepLemmas.adds}
use Rattle.ring_adders.proofs.seats.SharedCounter.add.Goals as goal

pub fetch_add-requires : goal.fetch_add-requires
fetch_add-requires c = (
  c.requires,
  (let h = c.args.self.now.counts in omega arith),
  adds _ _ _ _ _ (omega arith) (let k = c.args.adder.now.some in let e = c.args.adder.now.counted in omega arith),
)

pub returns-clause-adds : goal.returns-clause-adds
returns-clause-adds c =
    let step = c.fetch_add.ensures.2.0 in
    let fits = c.ranges.delta in
    let is : cast_signed w64 c.cast_unsigned.result ≡ c.args.delta =
    ap (cast_signed w64) (c.cast_unsigned.ensures ∙ ap (cast_unsigned w64) (to_z-of_z w64 c.args.delta fits))
    ∙ to_z-of_z w64 c.args.delta fits in
    record {
      before = step.before;
      later = step.later;
      value_is = search rules ∙ c.cast_signed.ensures ∙ ap (cast_signed w64) step.sum;
      seen = ap (λ (v : AdderView). v.seen) step.view ∙ ap (λ n. step.before ++ n ∷ []) is;
      added = ap (λ (v : AdderView). v.added) step.view ∙ ap (λ n. c.args.adder.now.seat.me.0.added ++ n ∷ []) is;
    }
