-- The records in any words of a ring, and those of a history. Positions are running byte counts, and C is the capacity
-- of the buffer.
use Rattle.std.specs.Prelude.{◌≡◌, ℕ, ◌+◌, ◌-◌, ◌/◌, ◌%◌, ◌^◌, ◌<◌, ◌≤◌, Bool, ◌&&◌, ◌==◌, not, nat_le, nat_lt, int_lt, int_le, if◌then◌else◌, ℤ, pos, nat_abs, List, [], ◌∷◌, All, length, slice_index, Result, Ok, Err, Option, Some, None, ◌||◌}
use Rattle.std.specs.Int.{cast_signed, w32}
use Rattle.ring_layout.specs.{declared.message.Claim.Claim, declared.message.ClaimState.ClaimState, Picture.word_at}
use Rattle.ring_layout.specs.declared.message.ClaimState.TheVariants as claimed
use Rattle.ring_layout.specs.{History.IsMessage, History.span_of, Layout.tail_index, Layout.head_index, Lists.or_else}
use Rattle.ring_layout.specs.{Places.index, Places.next_place, Places.end_of, Places.rounded, Headers.padding_type}
use Rattle.ring_counters.specs.Records.{bytes_at}
use Rattle.ring_snapshot.specs.Listing.{lies_inside, listed_by, left_of, after_padding}
use Rattle.ring_snapshot.specs.declared.{record.Record.Record, record.RecordState.RecordState, listing.Listing.Listing}
use Rattle.ring_snapshot.specs.declared.record.RecordState.TheVariants.{Open, Committed, Aborted, AbortedOrPadding, Unstored}
use Rattle.ring_snapshot.specs.declared.{ring_finding.RingFinding.RingFinding, ring.RingSnapshot.RingSnapshot}
use Rattle.ring_snapshot.specs.declared.ring_finding.RingFinding.TheVariants.{UnalignedPosition, TailBeforeHead, TailTooFar, OutsideOfRecords, BadLength, BadType}

abbrev pub Entry : Type 0
Entry = Result Record RingFinding

-- Any words ----------------------------------------------------------------

-- the length in a header word
abbrev pub length_in : ℕ → ℤ
length_in w = cast_signed w32 (w % 2 ^ 32)

abbrev pub type_in : ℕ → ℤ
type_in w = cast_signed w32 (w / 2 ^ 32)

abbrev pub is_padding_type : ℤ → Bool
is_padding_type type_id = int_le type_id padding_type && int_le padding_type type_id

-- A record of this length may be at the position. It is inside the buffer, and does not cross the tail.
abbrev pub is_length : ℕ → ℕ → ℕ → ℕ → Bool
is_length C tail at n = lies_inside C at n && nat_le (at + rounded n) tail

-- a passed record, which may be padding if it ends with the buffer
abbrev pub passed_at : ℕ → ℕ → ℕ → Record
passed_at C at n = record {
  place = at;
  index = at % C;
  state = if at % C + n == C then AbortedOrPadding else Aborted;
  type_id = padding_type;
  length = n;
  body = [];
}

abbrev pub unstored_at : ℕ → ℕ → ℕ → Record
unstored_at C tail at =
    record { place = at; index = at % C; state = Unstored; type_id = pos 0; length = tail - at; body = [] }

abbrev pub message_at : ℕ → List ℕ → ℕ → ℤ → ℤ → Record
message_at C words at len type_id = record {
  place = at;
  index = at % C;
  state = if int_lt len (pos 0) then Open else Committed;
  type_id = type_id;
  length = nat_abs len;
  body = bytes_at words (at % C + 8) (nat_abs len - 8);
}

-- the entry of a header with this length and type id at a position
abbrev pub entry_for : ℕ → List ℕ → ℕ → ℕ → ℤ → ℤ → Entry
entry_for C words tail at len type_id =
    if not (is_length C tail at (nat_abs len)) then Err (BadLength (at % C) len)
    else (if int_lt (pos 0) len && is_padding_type type_id then Ok (passed_at C at (nat_abs len))
    else (if int_lt type_id (pos 1) then Err (BadType (at % C) type_id)
    else Ok (message_at C words at len type_id)))

-- the entry that the words have at a position, if the records end at the tail
abbrev pub entry_at : ℕ → List ℕ → ℕ → ℕ → Entry
entry_at C words tail at =
    let w = slice_index words (index C at) in
    if w == 0 then Ok (unstored_at C tail at) else entry_for C words tail at (length_in w) (type_in w)

-- the first n entries from a position on, one after another, up to the tail or a finding
abbrev pub listing : ℕ → List ℕ → ℕ → ℕ → ℕ → List Entry
listing C words tail = listed_by (λ (r : Record). r.length) (entry_at C words tail) tail

-- the entries that are still to come
abbrev pub records_left : Listing RingSnapshot → List Entry
records_left = left_of (λ (r : Record). r.length) (λ ring. entry_at ring.capacity ring.words.now)

-- the positions in a ring's trailer
abbrev pub head_in : RingSnapshot → ℕ
head_in ring = slice_index ring.words.now (head_index ring.capacity)

abbrev pub tail_in : RingSnapshot → ℕ
tail_in ring = slice_index ring.words.now (tail_index ring.capacity)

-- the entries of a ring from a position up to its tail
abbrev pub listed_from : RingSnapshot → ℕ → List Entry
listed_from ring position = listing ring.capacity ring.words.now (tail_in ring) ((tail_in ring - position) / 8) position

-- the finding about a head and a tail, in the order of the tests
abbrev pub positions_finding : ℕ → ℕ → ℕ → Option RingFinding
positions_finding C head tail =
    if not (head % 8 == 0) || not (tail % 8 == 0) then Some (UnalignedPosition head tail)
    else (if nat_lt tail head then Some (TailBeforeHead head tail)
    else (if nat_lt (head + C) tail then Some (TailTooFar head tail)
    else None))

-- the finding because of which nothing is listed from a position
abbrev pub from_finding : ℕ → ℕ → ℕ → ℕ → Option RingFinding
from_finding C head tail position = or_else (positions_finding C head tail)
    (if not (position % 8 == 0) || nat_lt position head
    || nat_lt tail position then Some (OutsideOfRecords position) else None)

-- Words of a history -------------------------------------------------------

-- a claim as a record of this state, with this length and body
abbrev pub claim_as : ℕ → ℕ → Claim → RecordState → ℕ → List ℕ → Record
claim_as C place c state n body =
    record { place = place; index = place % C; state = state; type_id = c.message.type_id; length = n; body = body }

abbrev pub record_of_claim : ℕ → ℕ → Claim → Record
record_of_claim C place c = by_state c.state
  where
    by_state : ClaimState → Record
    by_state claimed.Open = claim_as C place c Open (8 + length c.message.body) c.message.body
    by_state claimed.Committed = claim_as C place c Committed (8 + length c.message.body) c.message.body
    by_state claimed.Aborted = passed_at C place (8 + length c.message.body)

-- The records of claims that come after e, each with its place. Before each claim is its padding.
abbrev pub records_of : ℕ → ℕ → List Claim → List Record
records_of C e [] = []
records_of C e (c ∷ h) =
    let place = next_place C e (span_of c) in
    after_padding e place (passed_at C e (place - e)) (record_of_claim C place c) (records_of C (place + span_of c) h)

-- the claims go from e up to the tail, and the words there are those of the claims
pub record Lie (C : ℕ) (words : List ℕ) (tail e : ℕ) (h : List Claim) : Type 0 where
  pub lawful : All (λ c. IsMessage C c.message) h
  pub ends : end_of C e h ≡ tail
  pub picture : (p : ℕ) → p % 8 ≡ 0 → e ≤ p → p < tail → slice_index words (index C p) ≡ word_at C e h p
