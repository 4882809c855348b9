-- The headers that the words and the slots of any memory show, if the words have marks. The mark of a committed record
-- may be the end of a run of committed records, which follow one another. Each of them has its header in its first slot.
-- Positions are running byte counts, C is the capacity of the buffer, and the records end at the tail.
use Rattle.std.specs.Prelude.{ℕ, zero, suc, ◌+◌, ◌-◌, ◌/◌, ◌%◌, ◌^◌, Bool, ◌&&◌, ◌||◌, ◌==◌, not, nat_le, nat_lt, int_lt, if◌then◌else◌, ℤ, pos, negsuc, nat_abs, List, [], ◌∷◌, length, slice_index, Option, Some, None}
use Rattle.ring_counters.specs.Records.{bytes_at}
use Rattle.ring_layout.specs.{Layout.head_index, Layout.tail_index, Marks.committed_kind, Places.index, Places.rounded}
use Rattle.ring_layout.specs.Lists.{or_else, total}
use Rattle.ring_recovery.specs.declared.{mark.Found.Found, mark.Walk.Walk, message.RecoveredMessage.RecoveredMessage}
use Rattle.ring_snapshot.specs.{Marks.bad_header, declared.ring_finding.RingFinding.RingFinding}
use Rattle.ring_snapshot.specs.RingRecords.{is_length, length_in, positions_finding, type_in}
use Rattle.ring_snapshot.specs.declared.ring_finding.RingFinding.TheVariants.{BadBodies, BadLength, BadType}
use Rattle.ring_table.specs.Marks.{bytes_of, decoded, kind_of, mark_of}

-- the mark w at the position p ends where a record or padding may end
abbrev pub has_end : ℕ → ℕ → Bool
has_end p w = nat_le (p + 8) (w - w % 8) && nat_lt (w - w % 8 - p) (2 ^ 31)

-- a committed record with the header h may begin at the position p, in a run that ends at the mark w
abbrev pub is_of_run : ℕ → ℕ → ℕ → Bool
is_of_run p w h = nat_le 8 (bytes_of h) && nat_le (p + bytes_of h) w && kind_of h == committed_kind

-- the mark w at the position p shows the header h
abbrev pub shows : ℕ → ℕ → ℕ → Bool
shows p w h = has_end p w && (if w % 8 == committed_kind then is_of_run p w h else mark_of p h == w)

-- The header that the word w and the first slot y show at the position p. It is 0 if w is no mark. It is a header that
-- no record has if w is no mark of what it shows.
abbrev pub header_of_mark : ℕ → ℕ → ℕ → ℕ
header_of_mark p w y = if nat_le w p then 0 else (if shows p w (decoded p w y) then decoded p w y else bad_header)

-- Runs ---------------------------------------------------------------------

-- a walk that has passed nothing
abbrev pub new_walk : Walk
new_walk = record { next = 0; end = 0 }

-- The mark that counts at the position p, which has the word w. At each record of the run that the walk v is in, it is
-- the end of the run
abbrev pub mark_in : Walk → ℕ → ℕ → ℕ
mark_in v p w = if nat_le w p && v.next == p then v.end else w

-- the word w at the position p is a mark inside of a run, and not the end of the run
abbrev pub is_stray : Walk → ℕ → ℕ → Bool
is_stray v p w = nat_lt p v.end && nat_lt p w && not (w == v.end)

-- the walk v after the position p, which has the mark w and the first slot y
abbrev pub walk_after : Walk → ℕ → ℕ → ℕ → Walk
walk_after v p w y =
    if nat_lt p w && w % 8 == committed_kind && shows p w y then record { next = p + bytes_of y; end = w } else v

-- what a walk finds at the position p: the header, and the walk after it
abbrev pub found_at : ℕ → List ℕ → List ℕ → Walk → ℕ → Found
found_at C words slots v p =
    let w = slice_index words (index C p) in
    let y = slice_index slots (index C p) in
    record {
      header = if is_stray v p w then bad_header else header_of_mark p (mark_in v p w) y;
      walk = walk_after v p (mark_in v p w) y;
    }

-- The headers at n positions from p on, each with its position. `found` gives what a walk finds at a position, and its
-- header is 0 if there is none
abbrev pub headers_in : (Walk → ℕ → Found) → ℕ → Walk → ℕ → List (ℕ × ℕ)
headers_in found zero v p = []
headers_in found (suc n) v p =
    if (found v p).header == 0 then headers_in found n (found v p).walk (p + 8)
    else (p, (found v p).header) ∷ headers_in found n (found v p).walk (p + 8)

-- the bytes of a record with this header, from the begin of the header on
abbrev pub bytes_in : ℕ → ℕ
bytes_in w = nat_abs (length_in w)

-- Committed messages -------------------------------------------------------

-- the header at the position p is that of a committed message
abbrev pub is_committed : ℕ → ℕ → ℕ → ℕ → Bool
is_committed C tail p w =
    int_lt (pos 0) (length_in w) && int_lt (pos 0) (type_in w) && is_length C tail p (bytes_in w)

-- the message with this header at the position p, whose body the slots have
abbrev pub message_at : ℕ → List ℕ → ℕ → ℕ → RecoveredMessage
message_at C slots p w =
    record { place = p; type_id = type_in w; body = bytes_at slots (p % C + 8) (bytes_in w - 8) }

-- the committed messages of these headers
abbrev pub messages_of : ℕ → List ℕ → ℕ → List (ℕ × ℕ) → List RecoveredMessage
messages_of C slots tail [] = []
messages_of C slots tail (h ∷ hs) =
    if is_committed C tail h.0 h.1 then message_at C slots h.0 h.1 ∷ messages_of C slots tail hs
    else messages_of C slots tail hs

-- Open claims --------------------------------------------------------------

-- the header is that of an open claim, whose length is negated
abbrev pub is_open : ℕ → Bool
is_open w = int_lt (length_in w) (pos 0)

abbrev pub one_if_open : ℕ × ℕ → ℕ
one_if_open h = if is_open h.1 then 1 else 0

-- the number of open claims of these headers
abbrev pub open_of : List (ℕ × ℕ) → ℕ
open_of hs = total one_if_open hs

-- Findings -----------------------------------------------------------------

-- A record has this length and this type id. A message has a type id from 1 on, an aborted record -1, and padding -2
abbrev pub is_type : ℤ → ℤ → Bool
is_type len type_id =
    int_lt (pos 0) type_id || (int_lt (pos 0) len && int_lt type_id (pos 0) && int_lt (negsuc 2) type_id)

-- the finding about the header at the position p, if the record before it ends at `end`
abbrev pub header_finding : ℕ → ℕ → ℕ → ℕ → ℕ → Option RingFinding
header_finding C tail end p w =
    if nat_lt p end || not (is_length C tail p (bytes_in w)) then Some (BadLength (p % C) (length_in w))
    else (if is_type (length_in w) (type_in w) then None else Some (BadType (p % C) (type_in w)))

-- the first finding about these headers, if the record before them ends at `end`
abbrev pub headers_finding : ℕ → ℕ → ℕ → List (ℕ × ℕ) → Option RingFinding
headers_finding C tail end [] = None
headers_finding C tail end (h ∷ hs) = or_else (header_finding C tail end h.0 h.1)
    (headers_finding C tail (h.0 + rounded (bytes_in h.1)) hs)

-- Any memory ---------------------------------------------------------------

abbrev pub head_of : ℕ → List ℕ → ℕ
head_of C words = slice_index words (head_index C)

abbrev pub tail_of : ℕ → List ℕ → ℕ
tail_of C words = slice_index words (tail_index C)

-- the headers that a walk finds from one position up to another
abbrev pub headers_between : ℕ → List ℕ → List ℕ → Walk → ℕ → ℕ → List (ℕ × ℕ)
headers_between C words slots v from to = headers_in (found_at C words slots) ((to - from) / 8) v from

-- the headers from the head to the tail
abbrev pub all_headers : ℕ → List ℕ → List ℕ → List (ℕ × ℕ)
all_headers C words slots = headers_between C words slots new_walk (head_of C words) (tail_of C words)

-- The first thing in which the words and the slots contradict the rule: the number of slots, then the positions, then
-- the headers from the head on
abbrev pub finding_of : ℕ → List ℕ → List ℕ → Option RingFinding
finding_of C words slots =
    or_else (if length slots == C / 8 then None else Some (BadBodies (length slots)))
    (or_else (positions_finding C (head_of C words) (tail_of C words))
    (headers_finding C (tail_of C words) (head_of C words) (all_headers C words slots)))
