use Rattle.std.proofs.Common.{◌∙◌, ◌++◌, ap}
use Rattle.ring_rings.{specs.Holding.in_slots, proofs.HoldingLemmas.slots_append}
use Rattle.ring_ends.specs.Claims.{claims_in}
use Rattle.ring_ends.proofs.open_claims.OpenClaims.append.Goals as goal

pub returns-clause-appended : goal.returns-clause-appended
returns-clause-appended c =
    let mine = ap claims_in c.self.view_is in
    let its = ap claims_in c.other.view_is ∙ c.tidy.ensures in
    ap claims_in c.note_rest.ensures ∙ ap in_slots c.in-Ok.ensures.items
    ∙ slots_append c.self.inside.slots.items c.other.inside.slots.items ∙ (λ i. mine i ++ its i)
