use Rattle.std.proofs.Common.{◌-◌, ℕ, ◌*◌, ◌^◌, ◌<◌, ◌≤◌, ◌≡◌, ◌+◌, length, take}
use Rattle.ring_table.specs.RunBodies.{messages_of}
use Rattle.ring_handles.specs.WritingBatch.{Begins}
use Rattle.ring_handles.proofs.writing_batch.gather.Given as goal

abbrev pub invariant-loop-gathered : goal.invariant-loop-gathered
invariant-loop-gathered l =
    ((C : ℕ) → Begins C l.records l.start (messages_of (take l.gathered.count l.chunk)) l.gathered.end)
    × (l.gathered.count ≤ length l.chunk)
    × (length l.chunk ≡ length l.fn.chunk)
    × (l.start + 16 * l.gathered.count ≤ l.gathered.end)
    × (l.gathered.end < 2 ^ 32 + 8)
    × (l.gathered.end ≤ l.start + 8589934592 * l.gathered.count)

abbrev pub decreases-loop-gathered : goal.decreases-loop-gathered
decreases-loop-gathered l = length l.chunk - l.gathered.count
