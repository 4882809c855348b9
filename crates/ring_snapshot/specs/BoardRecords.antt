-- The records in any words of a broadcast buffer. Positions are running byte counts, and C is the capacity of the
-- buffer.
use Rattle.std.specs.Prelude.{◌≡◌, ℕ, true, false, ◌+◌, ◌-◌, ◌/◌, ◌%◌, Bool, ◌&&◌, ◌||◌, ◌==◌, not, nat_le, nat_lt, int_lt, if◌then◌else◌, ℤ, pos, nat_abs, List, [], ◌∷◌, ◌++◌, length, slice_index, Result, Ok, Err, Option, Some, None, ◌⊎◌}
use mathlib.Core.Option.{some}
use lib.ListN.{get_elem?}
use Rattle.ring_layout.specs.{Places.index, Places.room, Places.rounded, Headers.padding_type, Lists.or_else}
use Rattle.ring_board.specs.declared.shared.view.Record.{Record}
use Rattle.ring_board.specs.{Layout.intent_index, Layout.tail_index, Layout.latest_index, Closing.IsClosed}
use Rattle.ring_counters.specs.Records.{bytes_at}
use Rattle.ring_snapshot.specs.declared.{board_record.BoardRecord.BoardRecord, board_finding.BoardFinding.BoardFinding}
use Rattle.ring_snapshot.specs.declared.board_finding.BoardFinding.TheVariants.{UnalignedPosition, TailBeforeLatest, IntentBeforeTail, TailTooFar, IntentTooFar, OutsideOfRecords, BadLength, BadType}
use Rattle.ring_snapshot.specs.declared.{listing.Listing.Listing, board.BoardSnapshot.BoardSnapshot}
use Rattle.ring_snapshot.specs.Listing.{lies_inside, listed_by, left_of, after_padding, ok_records}
use Rattle.ring_snapshot.specs.RingRecords.{length_in, type_in, is_padding_type}

abbrev pub BoardEntry : Type 0
BoardEntry = Result BoardRecord BoardFinding

-- A record of this length may be at the position. It is inside the buffer and does not cross `latest`, and the record
-- at `latest` ends at the tail.
abbrev pub is_length : ℕ → ℕ → ℕ → ℕ → ℕ → Bool
is_length C latest tail at n =
    lies_inside C at n
    && (if nat_lt at latest then nat_le (at + rounded n) latest else (at == latest && at + rounded n == tail))

abbrev pub padding_at : ℕ → ℕ → ℕ → ℕ → ℤ → BoardRecord
padding_at C intent at n type_id = record {
  place = at;
  index = at % C;
  is_padding = true;
  is_valid =
      nat_lt intent (at + C);
  type_id = type_id;
  length = n;
  body = [];
}

abbrev pub message_at : ℕ → List ℕ → ℕ → ℕ → ℕ → ℤ → BoardRecord
message_at C words intent at n type_id = record {
  place = at;
  index = at % C;
  is_padding = false;
  is_valid = nat_lt intent (at + C);
  type_id = type_id;
  length = n;
  body = bytes_at words (at % C + 8) (n - 8);
}

-- The entry of a header with this length and type id at a position. Padding goes up to the end of the buffer, and is
-- not the last record.
abbrev pub entry_for : ℕ → List ℕ → ℕ → ℕ → ℕ → ℕ → ℤ → ℤ → BoardEntry
entry_for C words intent latest tail at len type_id =
    let n = nat_abs len in
    if int_lt len (pos 1) || not (is_length C latest tail at n) then Err (BadLength (at % C) len)
    else (if is_padding_type type_id then (if nat_le latest at
    || not (at % C + n == C) then Err (BadLength (at % C) len) else Ok (padding_at C intent at n type_id))
    else (if int_lt type_id (pos 1) then Err (BadType (at % C) type_id)
    else Ok (message_at C words intent at n type_id)))

-- the entry that the words have at a position
abbrev pub entry_at : ℕ → List ℕ → ℕ → ℕ → ℕ → ℕ → BoardEntry
entry_at C words intent latest tail at =
    let w = slice_index words (index C at) in entry_for C words intent latest tail at (length_in w) (type_in w)

-- the first n entries from a position on, one after another, up to the tail or a finding
abbrev pub listing : ℕ → List ℕ → ℕ → ℕ → ℕ → ℕ → ℕ → List BoardEntry
listing C words intent latest tail =
    listed_by (λ (r : BoardRecord). r.length) (entry_at C words intent latest tail) tail

-- the positions in the trailer
abbrev pub intent_in : BoardSnapshot → ℕ
intent_in b = slice_index b.words.now (intent_index b.capacity)

abbrev pub tail_in : BoardSnapshot → ℕ
tail_in b = slice_index b.words.now (tail_index b.capacity)

abbrev pub latest_in : BoardSnapshot → ℕ
latest_in b = slice_index b.words.now (latest_index b.capacity)

-- the entries that are still to come
abbrev pub records_left : Listing BoardSnapshot → List BoardEntry
records_left = left_of (λ (r : BoardRecord). r.length)
    (λ b. entry_at b.capacity b.words.now (intent_in b) (latest_in b))

-- the entries of a broadcast buffer from a position up to its tail
abbrev pub listed_from : BoardSnapshot → ℕ → List BoardEntry
listed_from b position =
    listing b.capacity b.words.now (intent_in b) (latest_in b) (tail_in b) ((tail_in b - position) / 8) position

-- the start of the lap in which the last record is
abbrev pub lap_of : ℕ → ℕ → ℕ
lap_of C latest = latest - latest % C

-- The intent is not beyond the buffer's end after the start of the current lap. So nothing of the lap is overwritten.
abbrev pub is_lap_whole : ℕ → ℕ → ℕ → Bool
is_lap_whole C intent latest = nat_le intent (lap_of C latest + C)

-- the start of the current lap if the lap is whole, and otherwise the last record
abbrev pub first_whole : ℕ → ℕ → ℕ → ℕ
first_whole C intent latest = if is_lap_whole C intent latest then lap_of C latest else latest

-- the finding about the positions, in the order of the tests
abbrev pub positions_finding : ℕ → ℕ → ℕ → ℕ → Option BoardFinding
positions_finding C intent tail latest =
    if not (intent % 8 == 0) || not (tail % 8 == 0)
    || not (latest % 8 == 0) then Some (UnalignedPosition intent tail latest)
    else (if nat_lt tail latest then Some (TailBeforeLatest tail latest)
    else (if nat_lt intent tail then Some (IntentBeforeTail intent tail)
    else (if nat_lt (latest + room C latest) tail then Some (TailTooFar tail latest)
    else (if nat_lt (latest + C) intent then Some (IntentTooFar intent latest)
    else None))))

-- the finding because of which nothing is listed from a position
abbrev pub from_finding : ℕ → ℕ → ℕ → ℕ → ℕ → Option BoardFinding
from_finding C intent tail latest position = or_else (positions_finding C intent tail latest)
    (if not (position % 8 == 0) || not (nat_le position latest || position == tail)
    || nat_lt (position + C) intent then Some (OutsideOfRecords position) else None)

-- Words of a closed broadcast buffer ----------------------------------------

-- the words are those of a closed broadcast buffer that began at a multiple of its capacity, and transmitted this list
abbrev pub HaveTransmitted : ℕ → List ℕ → List Record → Type 0
HaveTransmitted C words sent = (e : ℕ) × (e % C ≡ 0) × IsClosed C e sent words

-- a transmission as a record
abbrev pub record_of : ℕ → ℕ → Record → BoardRecord
record_of C intent r = record {
  place = r.place;
  index = r.place % C;
  is_padding = false;
  is_valid = nat_lt intent (r.place + C);
  type_id = r.message.type_id;
  length = 8 + length r.message.body;
  body = r.message.body;
}

-- the records of transmissions, each with the padding before it, if there is padding
abbrev pub records_of : ℕ → ℕ → List Record → List BoardRecord
records_of C intent [] = []
records_of C intent (r ∷ rs) =
    after_padding r.before r.place (padding_at C intent r.before (r.place - r.before) padding_type)
    (record_of C intent r) (records_of C intent rs)

-- the records of these that are at a position or after it
abbrev pub from_on : ℕ → List BoardRecord → List BoardRecord
from_on position [] = []
from_on position (r ∷ rs) = (if nat_le position r.place then r ∷ [] else []) ++ from_on position rs

-- the entries that must be listed of these transmissions from a position on, which are all records there, in order, and
-- no finding
abbrev pub transmitted_from : BoardSnapshot → List Record → ℕ → List BoardEntry
transmitted_from b sent position = ok_records (from_on position (records_of b.capacity (intent_in b) sent))

-- A transmission begins at the position, with its padding or with its record, or the last transmission ends there.
abbrev pub BeginsAt : List Record → ℕ → ℕ → Type 0
BeginsAt sent tail position = (position ≡ tail)
    ⊎ ((k : ℕ) × (r : Record) × (get_elem? sent k ≡ some r) × ((position ≡ r.before) ⊎ (position ≡ r.place)))
