use Rattle.std.proofs.Common.{◌≡◌, ℕ, List, Some, arith, sym, ap, subst, ◌∙◌}
use Rattle.std.proofs.lemmas.List.{with_items_is}
use Rattle.ring_words.specs.{Ring.Ring, Ring.ring, Ring.Has, Reading.Sees, Reading.Leaves}
use Rattle.ring_layout.specs.declared.message.Claim.{Claim}
use Rattle.ring_words.proofs.ring.SoloRing.pass.Goals as goal

pub take_at_head-requires-clause-seen : goal.take_at_head-requires-clause-seen
take_at_head-requires-clause-seen c =
    let is : ring c.self.inside.capacity c.deref_mut.result.now ≡ c.args.self.now =
    ap (ring c.self.inside.capacity) c.deref_mut.ensures.value ∙ c.self.view_is in
    subst (λ (r : Ring). (h : List Claim) → Has r h → Sees r h (Some c.args.settled)) (sym is) c.requires.seen

pub returns-clause-leaves : goal.returns-clause-leaves
returns-clause-leaves c =
    let C : ℕ = c.self.inside.capacity in
    let is : ring C c.deref_mut.result.now ≡ c.args.self.now = ap (ring C) c.deref_mut.ensures.value ∙ c.self.view_is in
    let stored = with_items_is c.self.inside.words c.take_at_head.new.words
    (omega (arith, c.take_at_head.auto.words, c.deref_mut.ensures.len)) in
    let now = subst (λ (r : Ring). (h : List Claim) → Has r h
    → Leaves r h c.args.settled (ring C c.take_at_head.new.words)) is c.take_at_head.ensures.leaves in
    subst (λ (ws : List ℕ). (h : List Claim) → Has c.args.self.now h
    → Leaves c.args.self.now h c.args.settled (ring C ws)) (sym stored) now
