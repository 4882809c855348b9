-- Bytes in words, little-endian.
use Rattle.std.specs.Prelude.{◌≡◌, ℕ, ◌+◌, ◌*◌, ◌<◌, List, length, drop, slice_index}
use Rattle.std.specs.Int.{from_le_bytes, w64}

-- the k-th word of these bytes, with zeros after them
abbrev pub word_of_bytes : List ℕ → ℕ → ℕ
word_of_bytes bytes k = from_le_bytes w64 (drop (8 * k) bytes)

-- the words hold these bytes from the index `at` on
abbrev pub HoldsBytes : List ℕ → ℕ → List ℕ → Type 0
HoldsBytes words at bytes = (k : ℕ) → 8 * k < length bytes → slice_index words (at + k) ≡ word_of_bytes bytes k
