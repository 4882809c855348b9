use Rattle.std.proofs.Common.{◌≡◌, ℕ, ◌-◌, ◌/◌, ◌≤◌, List, slice_index, vec_len}
use Rattle.std.specs.Slots.{slots_items}
use Rattle.ring_layout.specs.Layout.{head_index}
use Rattle.ring_table.specs.{Staged.StagedClaim, Staged.staged_end, Refilling.FillsTo, Refilling.MayFill}
use Rattle.ring_table.proofs.rescue.add_bodies.Given as goal

abbrev pub invariant-loop-at : goal.invariant-loop-at
invariant-loop-at l = record {
  wide : vec_len l.words ≡ vec_len l.initial.words;
  trailer : (i : ℕ) → l.capacity / 8 ≤ i → slice_index l.words.items i ≡ slice_index l.initial.words.items i;
  walks : (F : ℕ → List ℕ) (now : List StagedClaim)
      → MayFill l.capacity (slots_items l.closed.slots) F now l.initial.words.items
      → (l.tail ≡ staged_end (slice_index l.initial.words.items (head_index l.capacity)) now)
      × FillsTo l.capacity (slice_index l.initial.words.items (head_index l.capacity)) (slots_items l.closed.slots) F
      now l.at l.words.items;
}

abbrev pub decreases-loop-at : goal.decreases-loop-at
decreases-loop-at l = l.tail - l.at
