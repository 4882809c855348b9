use Rattle.std.proofs.Common.{◌≡◌, ◌∙◌, ap, arith, subst, sym, FitsSigned, w64}
use Rattle.std.{specs.Int.cast_signed, specs.Int.cast_unsigned, proofs.lemmas.Int.to_z-of_z}
use Rattle.ring_counters.proofs.ValueSteps.{stores}
use Rattle.ring_counters.proofs.values.seats.CounterValues.store.Goals as goal

pub store-requires : goal.store-requires
store-requires c =
    let fits = c.ranges.value in
    let value : cast_signed w64 c.cast_unsigned.result ≡ c.args.value =
    ap (cast_signed w64) (c.cast_unsigned.ensures ∙ ap (cast_unsigned w64) (to_z-of_z w64 c.args.value fits))
    ∙ to_z-of_z w64 c.args.value fits in (
      c.requires.writer,
      (let h = c.args.self.now.counts in let k = c.requires.id in omega arith),
      stores _ _ _ _ _ _ _ c.requires.id (omega arith)
          (subst (FitsSigned w64) (sym value) fits) c.args.writer.now.writes,
    )
