use Rattle.std.proofs.Common.{◌≡◌, ℕ, ◌-◌, ◌/◌, ◌≤◌, List, slice_index, vec_len}
use Rattle.ring_layout.specs.Layout.{head_index}
use Rattle.ring_table.specs.{Staged.in_words, Staged.StagedClaim, Staged.staged_end, Rescued.ShowsClaims}
use Rattle.ring_table.specs.Settling.{Walks}
use Rattle.ring_table.proofs.rescue.settle_words.Given as goal

abbrev pub invariant-loop-at : goal.invariant-loop-at
invariant-loop-at l = record {
  wide : vec_len l.words ≡ vec_len l.initial.words;
  trailer : (i : ℕ) → l.capacity / 8 ≤ i → slice_index l.words.items i ≡ slice_index l.initial.words.items i;
  walks : (cs : List StagedClaim) → ShowsClaims in_words l.capacity l.initial.words.items cs
      → (l.tail ≡ staged_end (slice_index l.initial.words.items (head_index l.capacity)) cs)
      × Walks l.capacity (slice_index l.initial.words.items (head_index l.capacity)) cs l.at l.words.items l.claims l.silent;
  claims_low : l.claims ≤ l.at;
  silent_low : l.silent ≤ l.at;
}

abbrev pub decreases-loop-at : goal.decreases-loop-at
decreases-loop-at l = l.tail - l.at
