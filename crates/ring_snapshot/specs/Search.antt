-- Words of memory that look like those of a ring.
use Rattle.std.specs.Prelude.{ℕ, zero, suc, ◌+◌, ◌-◌, ◌/◌, ◌^◌, Bool, true, false, ◌&&◌, ◌||◌, ◌==◌, nat_le, nat_lt, not, is_none, List, [], ◌∷◌, min, take, drop, slice_index, Result, Ok, Err}
use Rattle.ring_layout.specs.{Places.index, Layout.head_index, Layout.ring_words, Layout.tail_index}
use Rattle.ring_snapshot.specs.RingRecords.{listing, positions_finding}

abbrev pub and_ok : {R F : Type 0} → Result R F → Bool → Bool
and_ok (Err _) rest = false
and_ok (Ok _) rest = rest

-- no entry is a finding
abbrev pub all_ok : {R F : Type 0} → List (Result R F) → Bool
all_ok [] = true
all_ok (entry ∷ rest) = and_ok entry (all_ok rest)

-- the n words from an index on are 0
abbrev pub are_zero : List ℕ → ℕ → ℕ → Bool
are_zero words zero i = true
are_zero words (suc n) i = slice_index words i == 0 && are_zero words n (i + 1)

-- The n words from a position on are 0. After the end of the buffer the words go on at its start.
abbrev pub is_clear : ℕ → List ℕ → ℕ → ℕ → Bool
is_clear C words n p =
    let first = min n (C / 8 - index C p) in are_zero words first (index C p) && are_zero words (n - first) 0

-- the words of the trailer before, between and after its five fields are 0
abbrev pub has_clear_trailer : ℕ → List ℕ → Bool
has_clear_trailer C words =
    are_zero words 16 (C / 8) && are_zero words 15 (C / 8 + 17) && are_zero words 15 (C / 8 + 33)
    && are_zero words 15 (C / 8 + 49) && are_zero words 15 (C / 8 + 65) && are_zero words 15 (C / 8 + 81)

-- The head and the tail make sense. All entries that are listed from the head on are records, and the first of them has
-- its header. The rest of the buffer is 0.
abbrev pub is_used_buffer : ℕ → List ℕ → ℕ → ℕ → Bool
is_used_buffer C words head tail =
    nat_le tail (2 ^ 62) && is_none (positions_finding C head tail)
    && (head == tail || not (slice_index words (index C head) == 0))
    && all_ok (listing C words tail ((tail - head) / 8) head) && is_clear C words ((head + C - tail) / 8) tail

-- the words of a ring of C bytes in which something was claimed
abbrev pub looks_like_ring : ℕ → List ℕ → Bool
looks_like_ring C words =
    nat_lt 0 (slice_index words (tail_index C)) && has_clear_trailer C words
    && is_used_buffer C words (slice_index words (head_index C)) (slice_index words (tail_index C))

-- a ring that looks like this begins at this word
abbrev pub is_ring_at : ℕ → List ℕ → ℕ → Bool
is_ring_at C words at = looks_like_ring C (take (ring_words C) (drop at words))
