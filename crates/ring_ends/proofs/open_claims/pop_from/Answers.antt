use Rattle.std.proofs.Common.{◌∙◌, ◌++◌, ◌∷◌, [], Option, ap, sym}
use Rattle.ring_words.specs.Open.{ClaimAt}
use Rattle.ring_rings.specs.Holding.{in_slots}
use Rattle.ring_ends.proofs.SlotLemmas.{last_claim, last_empty}
use Rattle.ring_ends.proofs.open_claims.pop_from.Goals as goal

pub returns-in-Some-slot : goal.returns-in-Some-slot
returns-in-Some-slot c =
    let rest = c.pop.new.self.items in
    sym c.loop-slot.invariant ∙ ap in_slots c.in-Some.ensures.items
    ∙ ap (λ (o : Option ClaimAt). in_slots (rest ++ o ∷ [])) c.in-Some-slot.is ∙ last_claim rest c.in-Some-slot.kept
    ∙ ap (λ (t : ClaimAt). in_slots rest ++ t ∷ []) (sym c.into_claim.ensures)

pub loop-slot-preserved : goal.loop-slot-preserved
loop-slot-preserved c =
    let rest = c.pop.new.self.items in
    sym (ap in_slots c.in-Some.ensures.items ∙ ap (λ (o : Option ClaimAt). in_slots (rest ++ o ∷ [])) c.in-None.is
    ∙ last_empty rest)
    ∙ c.loop-slot.invariant
