use Rattle.std.proofs.Common.{◌≡◌, ◌<◌, ℕ, [], length, replicate, All, heap_items}
use Rattle.std.specs.BinaryHeap.{IsHeap}
use Rattle.ring_judge.specs.{Lists.lists_of, Merged.HasTurn, Merged.compare_turns}
use Rattle.ring_judge.proofs.ring.merged.Merging.new.Given as goal

abbrev pub invariant-loop-thread : goal.invariant-loop-thread
invariant-loop-thread l = record {
  taken : l.merging.taken.items ≡ replicate (length l.lists) 0;
  lines : l.merging.lines.items ≡ [];
  ordered : IsHeap compare_turns (heap_items l.merging.turns);
  within : All (λ turn. turn.0.1 < length (lists_of l.lists)) (heap_items l.merging.turns);
  each : (t : ℕ) → t < l.thread → HasTurn (lists_of l.lists) l.merging.taken.items (heap_items l.merging.turns) t;
}
