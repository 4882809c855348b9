-- The words of a broadcast buffer's trailer, which follow those of its buffer of C bytes.
use Rattle.std.specs.Prelude.{ℕ, ◌+◌, ◌/◌, ◌<◌}

abbrev pub intent_index : ℕ → ℕ
intent_index C = C / 8

abbrev pub tail_index : ℕ → ℕ
tail_index C = C / 8 + 1

abbrev pub latest_index : ℕ → ℕ
latest_index C = C / 8 + 2

-- the number of words of a broadcast buffer
abbrev pub board_words : ℕ → ℕ
board_words C = C / 8 + 16

-- the index of a word of the trailer that has no name
abbrev pub IsUnnamed : ℕ → ℕ → Type 0
IsUnnamed C i = (latest_index C < i) × (i < board_words C)
