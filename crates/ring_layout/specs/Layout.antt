-- The words of a ring's trailer, which follow those of its buffer of C bytes.
use Rattle.std.specs.Prelude.{◌≢◌, ℕ, ◌+◌, ◌/◌, ◌≤◌}

abbrev pub tail_index : ℕ → ℕ
tail_index C = C / 8 + 16

abbrev pub head_cache_index : ℕ → ℕ
head_cache_index C = C / 8 + 32

abbrev pub head_index : ℕ → ℕ
head_index C = C / 8 + 48

abbrev pub correlation_index : ℕ → ℕ
correlation_index C = C / 8 + 64

abbrev pub heartbeat_index : ℕ → ℕ
heartbeat_index C = C / 8 + 80

-- the number of words of a ring
abbrev pub ring_words : ℕ → ℕ
ring_words C = C / 8 + 96

-- a word after the buffer that is not one of the five named words
pub record IsUnnamed (C i : ℕ) : Type 0 where
  pub behind : C / 8 ≤ i
  pub not_tail : i ≢ tail_index C
  pub not_cache : i ≢ head_cache_index C
  pub not_head : i ≢ head_index C
  pub not_correlation : i ≢ correlation_index C
  pub not_heartbeat : i ≢ heartbeat_index C
