use Rattle.std.proofs.Common.{◌≡◌, ℕ, ◌+◌, ◌*◌, ◌/◌, ◌%◌, ◌≤◌, ◌<◌, slice_index, vec_len}
use Rattle.std.specs.Slots.{slots_items}
use Rattle.ring_layout.specs.Places.{index}
use Rattle.ring_table.specs.Marks.{decoded}
use Rattle.ring_table.proofs.decode.decode_marks.Given as goal

abbrev pub invariant-loop-k : goal.invariant-loop-k
invariant-loop-k l = record {
  len : vec_len l.words ≡ vec_len l.initial.words;
  done : (p : ℕ) → p % 8 ≡ 0 → l.head ≤ p → p < l.head + 8 * l.k
      → slice_index l.words.items (index l.capacity p)
      ≡ decoded p (slice_index l.initial.words.items (index l.capacity p))
      (slice_index (slots_items l.closed.slots) (index l.capacity p));
  ahead : (p : ℕ) → p % 8 ≡ 0 → l.head + 8 * l.k ≤ p → p < l.head + l.capacity
      → slice_index l.words.items (index l.capacity p) ≡ slice_index l.initial.words.items (index l.capacity p);
  trailer : (i : ℕ) → l.capacity / 8 ≤ i → slice_index l.words.items i ≡ slice_index l.initial.words.items i;
}
