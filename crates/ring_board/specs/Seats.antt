-- The words of clauses for broadcast buffers, transmitters and receivers.
use Rattle.std.specs.Prelude.{◌≡◌, ℕ, ℤ, List, [], length, Option, Result, MatchResult, MatchOption}
use mathlib.Core.Option.{some}
use lib.ListN.{get_elem?}
use Rattle.atomic_table.specs.declared.shared.Seat.{Seat}
use Rattle.ring_layout.specs.{History.span, Places.next_place, Places.end_after}
use Rattle.ring_board.specs.declared.shared.view.{Record.Record, View.View, Taken.Taken}
use Rattle.ring_board.specs.declared.fault.{TransmitFault.TransmitFault, Lapped.Lapped}
use Rattle.ring_board.specs.{declared.board.Board.Board, declared.board.Begun.Begun, Views.Sat, Views.at_stage}
use Rattle.ring_board.specs.declared.board.{Transmitter.Transmitter, Filled.Filled, Receiver.Receiver, Copied.Copied}
use Rattle.ring_board.specs.declared.board.{BeginRefused.BeginRefused, CopyReceiver.CopyReceiver, RawRecord.RawRecord}
use Rattle.ring_board.specs.Rule.{opening_view}
use Rattle.ring_board.specs.Receiving.{GotNothing, GotCopy, GotLapped, GotRecord, IsInBuffer}
use Rattle.ring_board.specs.TransmitterSteps.{draft, drafted, record_at}

-- the seat is one of this broadcast buffer
abbrev pub IsSeatOf : Board → Seat (Unit {0}) View → Type 0
IsSeatOf board s = s.table_id ≡ board.table.shared.table_id

-- the same seat
abbrev pub IsSameSeat : Seat (Unit {0}) View → Seat (Unit {0}) View → Type 0
IsSameSeat old new = (new.table_id ≡ old.table_id) × (new.id ≡ old.id)

abbrev pub capacity_of : Board → ℕ
capacity_of board = board.capacity

-- the position at which a broadcast buffer began
abbrev pub start_of : Board → ℕ
start_of board = board.table.shared.key.start

-- The transmitter ----------------------------------------------------------

-- the view of the transmitter, whose part `sent` is the transmitted list
abbrev pub view_of : Transmitter → View
view_of t = t.seat.me.0

abbrev pub shares_of : Transmitter → ℕ
shares_of t = t.seat.me.0.shares

abbrev pub tail_of : Transmitter → ℕ
tail_of t = t.tail

-- the view is of a seat of this broadcast buffer
abbrev pub IsViewOf : Board → View → Type 0
IsViewOf board v = (v.capacity ≡ board.capacity) × (v.start ≡ board.table.shared.key.start)

abbrev pub IsTransmitterOf : Board → Transmitter → Type 0
IsTransmitterOf board t = (t.seat.table_id ≡ board.table.shared.table_id) × IsViewOf board t.seat.me.0

-- a new broadcast buffer of this capacity with its transmitter, which begins at this start
abbrev pub IsNewAt : ℕ → ℕ → Board × Transmitter → Type 0
IsNewAt capacity start made =
    IsTransmitterOf made.0 made.1 × (view_of made.1 ≡ opening_view capacity start) × (tail_of made.1 ≡ start)

-- the record that comes next after a tail
abbrev pub next_record : ℕ → ℕ → ℤ → List ℕ → Record
next_record C tail type_id body = record {
  before = tail;
  place = next_place C tail (span (length body));
  message =
      record { type_id = type_id; body = body };
}

-- A transmission in steps --------------------------------------------------

abbrev pub IsBegunOf : Board → Begun → Type 0
IsBegunOf board b = (b.seat.table_id ≡ board.table.shared.table_id) × IsViewOf board b.seat.me.0

abbrev pub IsFilledOf : Board → Filled → Type 0
IsFilledOf board f = (f.seat.table_id ≡ board.table.shared.table_id) × IsViewOf board f.seat.me.0

abbrev pub begun_view : Begun → View
begun_view b = b.seat.me.0

abbrev pub filled_view : Filled → View
filled_view f = f.seat.me.0

-- the record that was filled
abbrev pub filled_record : Filled → Record
filled_record f = record_at f.seat.me.0.stage

abbrev pub begun_tail : Begun → ℕ
begun_tail b = b.tail

abbrev pub begun_type_id : Begun → ℤ
begun_type_id b = b.type_id

abbrev pub begun_len : Begun → ℕ
begun_len b = b.len

-- the transmitter has begun a transmission of a message of this type id and length
pub record HasBegun (C : ℕ) (t : Transmitter) (type_id : ℤ) (len : ℕ) (b : Begun) : Type 0 where
  pub view : begun_view b ≡ at_stage (view_of t)
      (drafted (draft (tail_of t) (next_place C (tail_of t) (span len)) (end_after C (tail_of t) (span len)) []))
  pub tail : begun_tail b ≡ tail_of t
  pub type_id_given : begun_type_id b ≡ type_id
  pub len_given : begun_len b ≡ len

-- the transmitter comes back with the reason
abbrev pub refused_with : Transmitter → TransmitFault → BeginRefused
refused_with t reason = record { reason = reason; transmitter = t }

-- Raw receivers ------------------------------------------------------------

abbrev pub IsRawOf : Board → Receiver → Type 0
IsRawOf board r = (r.seat.table_id ≡ board.table.shared.table_id) × IsViewOf board r.seat.me.0

-- the view of the receiver, with the slots of its seat, of which there are none
abbrev pub raw_seat : Receiver → Sat
raw_seat r = r.seat.me

abbrev pub raw_view : Receiver → View
raw_view r = r.seat.me.0

-- a record that a receiver with this view returned
pub record IsAnsweredRecord (v : View) (r : RawRecord) : Type 0 where
  pub copy : (n : ℕ) × (c : Taken) × (get_elem? v.copies n ≡ some c) × (c.place ≡ r.place)
      × (c.message.type_id ≡ r.type_id) × (length c.message.body ≡ r.len)
  pub inside : IsInBuffer v.capacity r

-- the result and the effect of a call of `receive_next`
abbrev pub ReceivedNext : Receiver → Receiver → Result (Option RawRecord) Lapped → Type 0
ReceivedNext old new result = MatchResult result
    (λ o. MatchOption o (GotNothing (raw_seat old) (raw_seat new))
    (λ r. GotRecord r (raw_seat old) (raw_seat new) × IsAnsweredRecord (raw_view new) r))
    (λ l. GotLapped l (raw_seat old) (raw_seat new))

-- the records that the receiver returned stay returned
abbrev pub StaysAnswered : Receiver → Receiver → Type 0
StaysAnswered old new = (r : RawRecord) → IsAnsweredRecord (raw_view old) r → IsAnsweredRecord (raw_view new) r

abbrev pub place_of : RawRecord → ℕ
place_of r = r.place

abbrev pub type_id_of : RawRecord → ℤ
type_id_of r = r.type_id

abbrev pub len_of : RawRecord → ℕ
len_of r = r.len

-- Copying receivers: they have a raw one inside -----------------------------

abbrev pub IsReceiverOf : Board → CopyReceiver → Type 0
IsReceiverOf board r = IsRawOf board r.receiver

abbrev pub receiver_seat : CopyReceiver → Sat
receiver_seat r = raw_seat r.receiver

abbrev pub receiver_view : CopyReceiver → View
receiver_view r = raw_view r.receiver

-- the result and the effect of a call of `receive`
abbrev pub Received : CopyReceiver → CopyReceiver → Result (Option Copied) Lapped → Type 0
Received old new result = MatchResult result
    (λ o. MatchOption o (GotNothing (receiver_seat old) (receiver_seat new))
    (λ c. GotCopy c.place c.type_id c.body.now (receiver_seat old) (receiver_seat new)))
    (λ l. GotLapped l (receiver_seat old) (receiver_seat new))
