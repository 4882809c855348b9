use Rattle.std.proofs.Common.{◌∙◌, ap, rules}
use Rattle.std.proofs.lemmas.Fn.{filter_same}
use Rattle.ring_rings.specs.Holding.{in_slots}
use Rattle.ring_ends.{specs.Claims.claims_in, proofs.SlotLemmas.none_noted, proofs.SlotLemmas.slots_filtered}
use Rattle.ring_ends.proofs.open_claims.OpenClaims.tidy.Goals as goal

pub returns : goal.returns
returns c =
    ap in_slots (filter_same _ _ _ (λ x b f' k. search rules) _ _ c.retain.ensures.filtered)
    ∙ slots_filtered c.self.inside.slots.items ∙ ap claims_in c.self.view_is

pub invariant_of-self : goal.invariant_of-self
invariant_of-self c = none_noted _ _
