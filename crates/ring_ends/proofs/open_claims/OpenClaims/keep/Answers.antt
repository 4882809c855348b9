use Rattle.std.proofs.Common.{◌∙◌, ◌++◌, ◌∷◌, [], ap, sym, subst, Some}
use Rattle.ring_words.specs.Open.{ClaimAt}
use Rattle.ring_rings.specs.Holding.{in_slots}
use Rattle.ring_ends.specs.{Claims.claims_in, Slots.AreNoted, Slots.ClaimSlots}
use Rattle.ring_ends.proofs.SlotLemmas.{last_claim, noted_append}
use Rattle.ring_ends.proofs.open_claims.OpenClaims.keep.Goals as goal

pub returns : goal.returns
returns c = ap in_slots c.push_reserved.ensures.items ∙ last_claim c.self.inside.slots.items c.of.result
    ∙ ap (λ (t : ClaimAt). in_slots c.self.inside.slots.items ++ t ∷ []) c.of.ensures
    ∙ ap (λ (v : ClaimSlots). claims_in v ++ c.args.claim ∷ []) c.self.view_is

pub invariant_of-self : goal.invariant_of-self
invariant_of-self c =
    subst (λ l. AreNoted l c.self.inside.map c.self.inside.noted) (sym c.push_reserved.ensures.items)
    (noted_append c.self.inside.slots.items c.self.inside.map c.self.inside.noted c.self.invariant
    (Some c.of.result ∷ []))
