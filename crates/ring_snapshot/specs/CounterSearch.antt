-- Words of memory that look like the metadata of a counter.
use Rattle.std.specs.Prelude.{ℕ, ◌-◌, ◌^◌, Bool, false, ◌&&◌, ◌||◌, ◌==◌, int_lt, if◌then◌else◌, pos, List, drop, slice_index}
use Rattle.std.specs.Ordering.{int_eq}
use Rattle.ring_snapshot.specs.RingRecords.{length_in}

-- the words of a counter in use, which are its state, the deadline of such a counter, and a label that has room
abbrev pub looks_like_counter : List ℕ → Bool
looks_like_counter metadata =
    let label = length_in (slice_index metadata 16) in
    if int_lt label (pos 0) || int_lt (pos 380) label then false
    else int_eq (length_in (slice_index metadata 0)) (pos 1) && slice_index metadata 1 == 2 ^ 63 - 1

-- the metadata of a counter that looks like this begin at this word
abbrev pub is_counter_at : List ℕ → ℕ → Bool
is_counter_at words at = looks_like_counter (drop at words)
