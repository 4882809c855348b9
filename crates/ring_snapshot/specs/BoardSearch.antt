-- Words of memory that look like those of a broadcast buffer.
use Rattle.std.specs.Prelude.{ℕ, ◌+◌, ◌-◌, ◌/◌, Bool, ◌&&◌, nat_lt, is_none, List, take, drop, slice_index}
use Rattle.ring_board.specs.Layout.{board_words, intent_index, latest_index, tail_index}
use Rattle.ring_snapshot.specs.BoardRecords.{first_whole, listing, positions_finding}
use Rattle.ring_snapshot.specs.Search.{all_ok, are_zero}

-- The positions make sense, and all listed entries are records. The listed entries are those of the current lap, or the
-- last one alone if the lap is not whole.
abbrev pub has_sound_records : ℕ → List ℕ → ℕ → ℕ → ℕ → Bool
has_sound_records C words intent tail latest =
    let first = first_whole C intent latest in
    is_none (positions_finding C intent tail latest)
    && all_ok (listing C words intent latest tail ((tail - first) / 8) first)

-- The words of a broadcast buffer of C bytes in which something was transmitted. A record is before the tail, and the
-- words of the trailer after its three fields are 0.
abbrev pub looks_like_board : ℕ → List ℕ → Bool
looks_like_board C words =
    let tail = slice_index words (tail_index C) in
    let latest = slice_index words (latest_index C) in
    nat_lt latest tail && are_zero words 13 (C / 8 + 3)
    && has_sound_records C words (slice_index words (intent_index C)) tail latest

-- a broadcast buffer that looks like this begins at this word
abbrev pub is_board_at : ℕ → List ℕ → ℕ → Bool
is_board_at C words at = looks_like_board C (take (board_words C) (drop at words))
