use Rattle.std.proofs.Common.{◌+◌, ◌<◌, ◌≤◌, heap_len}
use Rattle.ring_judge.specs.{Lists.lists_of, Merged.IsMerging, Merged.left_in}
use Rattle.ring_judge.proofs.MergeLemmas.{IsRestTaken}
use Rattle.ring_judge.proofs.ring.merged.merged.Given as goal

abbrev pub invariant-loop-merging : goal.invariant-loop-merging
invariant-loop-merging l = IsMerging (lists_of l.lists) l.merging

abbrev pub decreases-loop-merging : goal.decreases-loop-merging
decreases-loop-merging l = left_in (lists_of l.lists) l.merging.taken.items + heap_len l.merging.turns

abbrev pub invariant-loop-thread : goal.invariant-loop-thread
invariant-loop-thread l = IsRestTaken (lists_of l.lists) l.merging.taken.items l.merging.lines.items
    (λ t. (1 ≤ t) × (t < l.thread))
