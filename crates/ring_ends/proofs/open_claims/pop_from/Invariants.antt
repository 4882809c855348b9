use Rattle.std.proofs.Common.{◌≡◌, vec_len}
use Rattle.ring_rings.specs.Holding.{in_slots}
use Rattle.ring_ends.proofs.open_claims.pop_from.Given as goal

-- only empty slots are gone
abbrev pub invariant-loop-slot : goal.invariant-loop-slot
invariant-loop-slot l = in_slots l.slots.items ≡ in_slots l.initial.slots.items

abbrev pub decreases-loop-slot : goal.decreases-loop-slot
decreases-loop-slot l = vec_len l.slots
