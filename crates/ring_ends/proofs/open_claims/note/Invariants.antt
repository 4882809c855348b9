use Rattle.std.proofs.Common.{◌-◌, length}
use Rattle.ring_ends.specs.Slots.{AreNoted}
use Rattle.ring_ends.proofs.open_claims.note.Given as goal

abbrev pub invariant-loop-noted : goal.invariant-loop-noted
invariant-loop-noted l = AreNoted l.slots l.map l.noted

abbrev pub decreases-loop-noted : goal.decreases-loop-noted
decreases-loop-noted l = length l.slots - l.noted
