-- The contents of the words of a record.
use Rattle.std.specs.Prelude.{◌≡◌, ℕ, ◌*◌, ◌/◌, ◌%◌, ◌^◌, ◌<◌, ◌≤◌, ◌==◌, if◌then◌else◌, FitsSigned, List, map, length, slice_index, All}
use Rattle.std.specs.{List.range_with_len, Int.cast_signed, Int.w32, Int.w64}
use Rattle.ring_counters.specs.Counter.{Status, Unused, Allocated, Reclaimed, Metadata, Values, metadata_word, value_word}

-- the i-th byte of these words, little-endian
abbrev pub byte_at : List ℕ → ℕ → ℕ
byte_at words i = slice_index words (i / 8) / 2 ^ (8 * (i % 8)) % 256

-- n bytes of these words
abbrev pub bytes_at : List ℕ → ℕ → ℕ → List ℕ
bytes_at words from n = map (byte_at words) (range_with_len from n)

-- the status of a state, a pattern of 32 bits, with a deadline
abbrev pub status_from : ℕ → ℕ → Status
status_from state deadline = if state == 0 then Unused else (if state == 1 then Allocated else Reclaimed deadline)

-- the contents of the words of a metadata record
unfoldable pub metadata_of : List ℕ → Metadata
metadata_of words = record {
  status = status_from (slice_index words 0 % 2 ^ 32) (slice_index words 1);
  type_id = cast_signed w32 (slice_index words 0 / 2 ^ 32);
  key = bytes_at words 16 112;
  label = bytes_at words 132 (slice_index words 16 % 2 ^ 32);
}

-- the limits of a metadata record
pub record IsWithinLimits (m : Metadata) : Type 0 where
  pub type_id : FitsSigned w32 m.type_id
  pub key_length : length m.key ≡ 112
  pub key : All (λ b. b < 256) m.key
  pub label_length : length m.label ≤ 380
  pub label : All (λ b. b < 256) m.label

-- the words are those of a valid record
pub record IsMetadata (words : List ℕ) (m : Metadata) : Type 0 where
  pub lawful : IsWithinLimits m
  pub shows : (k : ℕ) → k < 64 → slice_index words k ≡ metadata_word m k

abbrev pub SomeMetadata : List ℕ → Type 0
SomeMetadata words = (m : Metadata) × IsMetadata words m

pub record IsValues (words : List ℕ) (v : Values) : Type 0 where
  pub value : FitsSigned w64 v.value
  pub shows : (k : ℕ) → k < 16 → slice_index words k ≡ value_word v k
