use Rattle.std.proofs.Common.{◌≡◌, ℕ, ◌<◌, slice_index, vec_len}
use Rattle.std.specs.Slots.{slots_items}
use Rattle.ring_table.proofs.picture.copy_words.Given as goal

abbrev pub invariant-loop-i : goal.invariant-loop-i
invariant-loop-i l = record {
  len : vec_len l.words ≡ vec_len l.initial.words;
  copied : (k : ℕ) → k < l.i → slice_index l.words.items k ≡ slice_index (slots_items l.closed.words) k;
}
