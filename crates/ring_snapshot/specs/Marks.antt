-- The marks in the words of a plain ring. The word at the index of a position is a mark if it is above the position,
-- and otherwise says nothing: it may be what an earlier lap left. A mark is the end of the record or of the padding
-- that begins at the position, and its kind. The mark of a committed record may also be the end of a run of committed
-- records, of which this one is the first. The slot at the same index has the header that the record has once it is
-- committed. Positions are running byte counts, and C is the capacity of the buffer.
use Rattle.std.specs.Prelude.{◌≡◌, ◌⊎◌, ℕ, ◌+◌, ◌-◌, ◌%◌, ◌^◌, ◌<◌, ◌≤◌, Bool, ◌&&◌, ◌||◌, ◌==◌, nat_le, nat_lt, int_lt, if◌then◌else◌, pos, neg_ℤ, nat_abs, List, length, slice_index}
use Rattle.ring_layout.specs.{declared.message.Claim.Claim, declared.message.ClaimState.ClaimState, Layout.tail_index}
use Rattle.ring_layout.specs.declared.message.ClaimState.TheVariants.{Open, Committed, Aborted}
use Rattle.ring_layout.specs.Headers.{committed_header, header, padding_header, padding_type}
use Rattle.ring_layout.specs.{History.IsMessage, History.span_of, Places.index, Places.rounded}
use Rattle.ring_layout.specs.Marks.{committed_kind, padding_kind, open_kind, aborted_kind}
use Rattle.ring_snapshot.specs.RingRecords.{length_in, type_in}

abbrev pub kind_in : ℕ → ℕ
kind_in mark = mark % 8

-- the bytes from a position to the end in a mark
abbrev pub bytes_to : ℕ → ℕ → ℕ
bytes_to mark at = mark - kind_in mark - at

-- ---- the words and the slots of a ring

-- the kind of a claim
abbrev pub kind_of : Claim → ℕ
kind_of c = by_state c.state
  where
    by_state : ClaimState → ℕ
    by_state Open = open_kind
    by_state Committed = committed_kind
    by_state Aborted = aborted_kind

-- a committed claim that ends here has the mark of a run, which goes on after the claim, up to the tail at most
pub record RunGoesOn (tail end mark : ℕ) (c : Claim) : Type 0 where
  pub committed : kind_of c ≡ committed_kind
  pub whole : mark % 8 ≡ 0
  pub before : end < mark
  pub near : mark ≤ tail

-- A claim at this place has this mark, alone or in a run, and the slots have its header in the form of a committed
-- record
pub record HasMark (C tail : ℕ) (slots : List ℕ) (place mark : ℕ) (c : Claim) : Type 0 where
  pub lawful : IsMessage C c.message
  pub aligned : place % 8 ≡ 0
  pub ends : (mark ≡ place + span_of c + kind_of c) ⊎ RunGoesOn tail (place + span_of c) mark c
  pub header : slice_index slots (index C place) ≡ committed_header c.message.type_id (length c.message.body)

-- The mark of what is at a position, if a run that began before goes on up to `run`. Inside of the run it is the run's
-- mark, and the word at the position says nothing
abbrev pub mark_at : ℕ → List ℕ → ℕ → ℕ → ℕ
mark_at C words run at = if nat_lt at run then run else slice_index words (index C at)

-- the end of the run with this mark, or 0 if the mark is not that of committed records
abbrev pub run_of : ℕ → ℕ
run_of mark = if kind_in mark == committed_kind then mark else 0

-- ---- headers in the format

-- The header of a mark that makes no sense. No record has it, since its length is 1.
abbrev pub bad_header : ℕ
bad_header = 1

-- A record of n bytes may have a mark of this kind that ends this many bytes after its position. The record ends there
-- too, or it is in a run of committed records, which ends at most `most` bytes after its position.
abbrev pub is_end : ℕ → ℕ → ℕ → ℕ → Bool
is_end most bytes kind n = n == bytes || kind == committed_kind && nat_lt n bytes && nat_le bytes most

-- a slot has the header of a message whose record may have such a mark
abbrev pub is_message_of : ℕ → ℕ → ℕ → ℕ → Bool
is_message_of most bytes kind slot =
    int_lt (pos 0) (length_in slot) && int_lt (pos 0) (type_in slot)
    && is_end most bytes kind (rounded (nat_abs (length_in slot)))

-- the header in a slot, in the form that a record of this kind has
abbrev pub header_as : ℕ → ℕ → ℕ
header_as kind slot =
    if kind == open_kind then header (neg_ℤ (length_in slot)) (type_in slot)
    else (if kind == aborted_kind then header (length_in slot) padding_type else slot)

-- The header of the record or padding whose mark has this kind and ends this many bytes after its position, with what
-- is in its first slot. The tail is `most` bytes after the position.
abbrev pub marked_header : ℕ → ℕ → ℕ → ℕ → ℕ
marked_header most bytes kind slot =
    if kind == padding_kind then (if nat_lt bytes (2 ^ 31) then padding_header bytes else bad_header)
    else (if nat_le kind aborted_kind && is_message_of most bytes kind slot then header_as kind slot else bad_header)

-- the header that this mark shows at a position, in the format. It is 0 if it is no mark.
abbrev pub header_with : ℕ → List ℕ → ℕ → ℕ → ℕ → ℕ
header_with C slots tail mark at =
    if nat_le mark at then 0
    else marked_header (tail - at) (bytes_to mark at) (kind_in mark) (slice_index slots (index C at))

-- the header that the word at a position shows
abbrev pub header_at : ℕ → List ℕ → List ℕ → ℕ → ℕ
header_at C words slots at =
    header_with C slots (slice_index words (tail_index C)) (slice_index words (index C at)) at
