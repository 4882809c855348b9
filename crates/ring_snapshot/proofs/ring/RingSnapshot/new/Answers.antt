use Rattle.std.proofs.Common.{◌≡◌, ◌-◌, ◌*◌, length, refl, ap, sym, ◌∙◌, arith, true, false}
use Rattle.ring_layout.specs.Places.{is_capacity}
use Rattle.ring_layout.proofs.CapacityLemmas.{capacity_blocks, lawful_test}
use Rattle.ring_snapshot.proofs.ring.RingSnapshot.new.Goals as goal

pub returns-then-not-is_capacity-clause-refused : goal.returns-then-not-is_capacity-clause-refused
returns-then-not-is_capacity-clause-refused c = (
  refl,
  λ C ok e.
      let same : (length c.args.words.now - 96) * 8 ≡ C = omega (arith, e, capacity_blocks C ok) in
      let yes : c.is_capacity.result ≡ true = c.is_capacity.ensures.test ∙ ap is_capacity same ∙ lawful_test C ok in
      let clash : false ≡ true = sym c.if-not-is_capacity.true ∙ yes in absurd cc,
)
