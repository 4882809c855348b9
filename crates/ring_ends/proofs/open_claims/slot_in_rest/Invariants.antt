use Rattle.ring_ends.proofs.SlotLemmas.{IsNotFrom}
use Rattle.ring_ends.proofs.open_claims.slot_in_rest.Given as goal

-- the last slots do not have the claim of this number
abbrev pub invariant-loop-end : goal.invariant-loop-end
invariant-loop-end l = IsNotFrom l.number l.slots l.end

abbrev pub decreases-loop-end : goal.decreases-loop-end
decreases-loop-end l = l.end
