use Rattle.std.proofs.Common.{◌-◌, ◌^◌, ◌<◌, ◌≤◌, ◌+◌, length}
use Rattle.ring_handles.proofs.WritingLemmas.{AreUpto}
use Rattle.ring_handles.proofs.writing_batch.test_records.Given as goal

abbrev pub invariant-loop-at : goal.invariant-loop-at
invariant-loop-at l = AreUpto l.capacity l.records l.at × (length l.records < 2 ^ 32) × (l.at ≤ length l.records + 7)

abbrev pub decreases-loop-at : goal.decreases-loop-at
decreases-loop-at l = length l.records - l.at
