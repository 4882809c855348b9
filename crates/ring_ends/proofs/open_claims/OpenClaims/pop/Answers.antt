use Rattle.ring_ends.proofs.SlotLemmas.{none_noted}
use Rattle.ring_ends.proofs.open_claims.OpenClaims.pop.Goals as goal

pub invariant_of-self : goal.invariant_of-self
invariant_of-self c = none_noted _ _
