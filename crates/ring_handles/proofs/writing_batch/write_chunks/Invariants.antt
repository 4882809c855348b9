use Rattle.std.proofs.Common.{◌≡◌, ◌-◌, ◌+◌, ◌*◌, ◌^◌, ◌≤◌, ◌<◌, length}
use Rattle.ring_ends.specs.Claiming.{KeepsNumbered}
use Rattle.ring_handles.proofs.WritingLemmas.{Wrote}
use Rattle.ring_handles.proofs.writing_batch.write_chunks.Given as goal

abbrev pub invariant-loop-at : goal.invariant-loop-at
invariant-loop-at g l = Wrote l.records l.at l.count l.fn.end.end.view l.end.end.view
    × KeepsNumbered l.fn.end l.end
    × (length l.chunk ≡ 64)
    × (16 * l.count ≤ l.at)
    × (l.at < 2 ^ 32 + 8)
    × (length l.records < 2 ^ 32)

abbrev pub decreases-loop-at : goal.decreases-loop-at
decreases-loop-at g l = length l.records - l.at
