use Rattle.std.proofs.Common.{◌≡◌, ℕ, List, arith, sym, subst, ap, ◌∙◌}
use Rattle.std.proofs.lemmas.List.{with_items_is}
use Rattle.ring_words.specs.{Ring.Ring, Ring.ring, Open.IsOpen}
use Rattle.ring_words.proofs.ring.SoloRing.settle.Goals as goal

pub returns-clause-others : goal.returns-clause-others
returns-clause-others c = λ t o apart.
    let C : ℕ = c.self.inside.capacity in
    let is : ring C c.deref_mut.result.now ≡ c.args.self.now = ap (ring C) c.deref_mut.ensures.value ∙ c.self.view_is in
    let stored = with_items_is c.self.inside.words c.settle_at.new.words
    (omega (arith, c.settle_at.auto.words, c.deref_mut.ensures.len)) in
    subst (λ (ws : List ℕ). IsOpen (ring C ws) t) (sym stored)
    (c.settle_at.ensures.others t (subst (λ (r : Ring). IsOpen r t) (sym is) o) apart)
