-- The words of a plain ring in the format. Its words have marks, and slots have the headers and the bodies at the same
-- indexes. Positions are running byte counts, and C is the capacity of the buffer.
use Rattle.std.specs.Prelude.{ℕ, zero, suc, ◌+◌, ◌-◌, ◌/◌, ◌&&◌, ◌||◌, ◌==◌, is_none, nat_le, int_lt, min, if◌then◌else◌, pos, nat_abs, List, replicate, take, drop, set, slice_index}
use Rattle.ring_layout.specs.Marks.{padding_kind}
use Rattle.ring_layout.specs.{History.overwritten, Places.index, Places.rounded, Layout.head_index, Layout.tail_index}
use Rattle.ring_snapshot.specs.Marks.{header_with, kind_in, mark_at, run_of}
use Rattle.ring_snapshot.specs.RingRecords.{is_length, is_padding_type, length_in, positions_finding, type_in}

-- The number of bytes from the begin of a record with this header to the begin of the next one. It is 0 if no record at
-- the position has this header.
abbrev pub span_at : ℕ → ℕ → ℕ → ℕ → ℕ
span_at C tail at w =
    if is_length C tail at (nat_abs (length_in w))
    && (int_lt (pos 0) (type_in w) || int_lt (pos 0) (length_in w) && is_padding_type (type_in w))
    then rounded (nat_abs (length_in w)) else 0

-- the n words after the header at an index, with this mark: zeros in padding, and otherwise what the slots have
abbrev pub body_at : List ℕ → ℕ → ℕ → ℕ → List ℕ
body_at slots mark i n = if kind_in mark == padding_kind then replicate n 0 else take n (drop (i + 1) slots)

-- the words with n words after the header at an index in the format
abbrev pub with_body : List ℕ → ℕ → ℕ → ℕ → List ℕ → List ℕ
with_body slots mark i n words = overwritten (i + 1) (body_at slots mark i n) words

-- the words with the record of n bytes at a position in the format
abbrev pub with_record : ℕ → List ℕ → ℕ → ℕ → ℕ → ℕ → List ℕ → List ℕ
with_record C slots tail mark at n words =
    set (with_body slots mark (index C at) (n / 8 - 1) words) (index C at) (header_with C slots tail mark at)

-- The words with the records from a position on in the format, one after another and at most m, if a run goes on up to
-- `run`. They end at the tail, and after a header that no record has. The words after it stay as they are.
abbrev pub joined_from : ℕ → List ℕ → ℕ → ℕ → ℕ → ℕ → List ℕ → List ℕ
joined_from C slots tail zero run at words = words
joined_from C slots tail (suc m) run at words =
    if nat_le tail at then words else (let mark = mark_at C words run at in
    let header = header_with C slots tail mark at in
    let n = span_at C tail at header in
    if n == 0 then set words (index C at) header
    else joined_from C slots tail m (run_of mark) (at + n) (with_record C slots tail mark at n words))

-- The words with n zeros from a position on. After the end of the buffer they go on at its start.
abbrev pub with_zeros : ℕ → ℕ → ℕ → List ℕ → List ℕ
with_zeros C at n words =
    let first = min n (C / 8 - index C at) in
    overwritten 0 (replicate (n - first) 0) (overwritten (index C at) (replicate first 0) words)

-- the words with the records between these positions in the format, and zeros in the rest of the buffer, if the
-- positions make sense
abbrev pub joined_between : ℕ → List ℕ → ℕ → ℕ → List ℕ → List ℕ
joined_between C slots head tail words =
    if is_none (positions_finding C head tail)
    then joined_from C slots tail ((tail - head) / 8) 0 head (with_zeros C tail ((C - (tail - head)) / 8) words)
    else words

-- the words with the records between their head and their tail in the format
abbrev pub joined : ℕ → List ℕ → List ℕ → List ℕ
joined C slots words =
    joined_between C slots (slice_index words (head_index C)) (slice_index words (tail_index C)) words
