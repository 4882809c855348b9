use Rattle.std.proofs.Common.{◌≡◌, ℕ, ◌+◌, ◌*◌, ◌<◌, ◌≤◌, drop, slice_index, List, w64}
use Rattle.std.specs.Int.{from_le_bytes}
use Rattle.ring_layout.proofs.word_bytes.store_bytes.Given as goal

-- the first k words of the bytes are stored, and no others
pub record Stored (old new bytes : List ℕ) (at k : ℕ) : Type 0 where
  pub inside : (j : ℕ) → j < k → slice_index new (at + j) ≡ from_le_bytes w64 (drop (8 * j) bytes)
  pub below : (i : ℕ) → i < at → slice_index new i ≡ slice_index old i
  pub above : (i : ℕ) → at + k ≤ i → slice_index new i ≡ slice_index old i

abbrev pub invariant-loop-k : goal.invariant-loop-k
invariant-loop-k l = Stored l.initial.words l.words l.bytes l.at l.k
