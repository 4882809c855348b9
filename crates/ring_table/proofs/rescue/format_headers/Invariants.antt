use Rattle.std.proofs.Common.{◌≡◌, ℕ, ◌≤◌, ◌<◌, slice_index, vec_len}
use Rattle.ring_table.specs.Staged.{elsewhere, shown_header}
use Rattle.ring_table.proofs.rescue.format_headers.Given as goal

abbrev pub invariant-loop-i : goal.invariant-loop-i
invariant-loop-i l = record {
  len : vec_len l.words ≡ vec_len l.initial.words;
  done : (k : ℕ) → k < l.i
      → slice_index l.words.items k ≡ shown_header elsewhere (slice_index l.initial.words.items k);
  ahead : (k : ℕ) → l.i ≤ k → slice_index l.words.items k ≡ slice_index l.initial.words.items k;
}
