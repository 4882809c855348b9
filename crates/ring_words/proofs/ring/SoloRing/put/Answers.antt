use Rattle.std.proofs.Common.{◌≡◌, ℕ, List, arith, sym, subst, ap, ◌∙◌}
use Rattle.std.proofs.lemmas.List.{with_items_is}
use Rattle.ring_words.specs.{Ring.Ring, Ring.ring, Open.IsOpen}
use Rattle.ring_words.proofs.ring.SoloRing.put.Goals as goal

pub returns-clause-claims : goal.returns-clause-claims
returns-clause-claims c = λ t o.
    let C : ℕ = c.self.inside.capacity in
    let is : ring C c.deref_mut.result.now ≡ c.args.self.now = ap (ring C) c.deref_mut.ensures.value ∙ c.self.view_is in
    let stored = with_items_is c.self.inside.words c.put_bytes.new.words
    (omega (arith, c.put_bytes.auto.words, c.deref_mut.ensures.len)) in
    subst (λ (ws : List ℕ). IsOpen (ring C ws) t) (sym stored)
    (c.put_bytes.ensures.claims t (subst (λ (r : Ring). IsOpen r t) (sym is) o))

pub returns-clause-is_open : goal.returns-clause-is_open
returns-clause-is_open c = returns-clause-claims c c.args.claim.now c.requires
