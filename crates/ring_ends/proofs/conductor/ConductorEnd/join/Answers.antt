use Rattle.std.proofs.Common.{◌∙◌, ap, arith, rules}
use Rattle.ring_rings.specs.Seats.{open_claims_of}
use Rattle.ring_service.proofs.GatheringLemmas.{gathered}
use Rattle.ring_ends.proofs.conductor.ConductorEnd.join.Goals as goal

pub invariant_of-self : goal.invariant_of-self
invariant_of-self c =
    let both = gathered _ _ _ _ c.join.ensures.joined in
    let mine = c.self.invariant.2 in
    let its = ap open_claims_of c.into_parts-producer.ensures.producer ∙ c.client.invariant.1 in
    let sum = both.open_claims in
    (search rules, search rules, omega (arith, sum, mine, its), search rules)
