-- What calls of a broadcast buffer's handles do: p is the transmitter before, q after, r is the receiver before, s
-- after, and the code is what is returned.
use Rattle.std.specs.Prelude.{◌≡◌, ◌≢◌, ◌⊎◌, ℕ, ◌/◌, ◌<◌, ◌≤◌, ℤ, [], ◌∷◌, ◌++◌, List, length, MatchOption, Result, Ok, Err, Option, None, Some}
use Rattle.ring_board.specs.{declared.fault.Lapped.Lapped, declared.board.RawRecord.RawRecord, Seats.next_record}
use Rattle.ring_board.specs.declared.fault.{TransmitFault.TransmitFault, SubscribeFault.TheVariants.NoShares}
use Rattle.ring_board.specs.{Views.Sat, Refusals.subscribe_refusal_of, Refusals.transmit_code}
use Rattle.ring_ends.specs.declared.{lending.Shared.Shared, receiver.Heard.Heard}
use Rattle.ring_ends.specs.BoardEnd.{copied, laps_of, place_of_end, tail_in, transmitted, Appends, BoardEnd, CopiesOne, DoesAt, Hears, IsAtFront, Seats}
use Rattle.ring_handles.specs.declared.{boards.TransmitterSide.TransmitterSide, identity.Identity.Identity}
use Rattle.ring_layout.specs.declared.refusal_codes.TheConstants.{LAPPED, NO_SHARES, OUT_OF_MEMORY}
use Rattle.ring_handles.specs.declared.code.TheConstants.{DONE, NO_MESSAGE, SHORT_BUFFER}

-- Transmitting -------------------------------------------------------------------

-- after code 0 the message was transmitted, and after another code nothing was
abbrev pub TransmitsOut : ℤ → List ℕ → TransmitterSide → TransmitterSide → ℤ → Type 0
TransmitsOut type_id body p q code = ((code ≡ DONE) × (transmitted q.end
    ≡ transmitted p.end ++ next_record p.end.capacity (tail_in p.end.knows) type_id body ∷ []))
    ⊎ ((code ≢ DONE) × (transmitted q.end ≡ transmitted p.end))

-- the code of a transmission: DONE, or that of the refusal
abbrev pub transmitted_code : Result (Unit {0}) TransmitFault → ℤ
transmitted_code (Ok done) = DONE
transmitted_code (Err fault) = transmit_code fault

-- a message was appended to the transmitted list, or refused, and nothing changed
abbrev pub Transmitted : ℤ → List ℕ → TransmitterSide → TransmitterSide → ℤ → Type 0
Transmitted type_id body p q code = (x : Result (Unit {0}) TransmitFault) × (code ≡ transmitted_code x)
    × (q ≡ record p { end = q.end }) × DoesAt (Appends p.end.capacity type_id body) p.end x q.end

-- Receivers ----------------------------------------------------------------------

-- a receiver of either kind
pub record Hearing (M : Type 0) : Type 0 where
  -- the receiver with its board
  pub end : BoardEnd Sat
  -- the number of the board, or of its conductor
  pub identity : Identity
  -- how it was lapped last
  pub lap : Option Lapped
  -- what only its kind has
  pub own : M

-- a receiver that copies messages, and what a conductor shares if it is a receiver of one's
abbrev pub Listening : Type 0
Listening = Hearing (Option Shared)

abbrev pub lender_of : Listening → Option Shared
lender_of r = r.own

-- a raw receiver, and the record that it returned last
abbrev pub Watching : Type 0
Watching = Hearing (Option RawRecord)

abbrev pub latest_of : Watching → Option RawRecord
latest_of r = r.own

-- the receiver's end did this, and returned x; the rest stays
abbrev pub ByItsEnd : {M R : Type 0} → (Sat → R → Sat → Type 0) → Hearing M → R → Hearing M → Type 0
ByItsEnd Call r x s = (s ≡ record r { end = s.end }) × DoesAt Call r.end x s.end

-- a share was moved to a receiver, which starts at the record at latest, and of which no call was made yet
pub record GivesSeat {M : Type 0} (own : M) (p q : TransmitterSide) (r : Hearing M) : Type 0 where
  pub left : q ≡ record p { end = q.end }
  pub right : r ≡ record { end = r.end; identity = p.identity; lap = None; own = own }
  pub seats : Seats p.end q.end r.end

-- a share was moved to a receiver
abbrev pub Subscribes : TransmitterSide → TransmitterSide → Listening → Type 0
Subscribes p q r = (subscribe_refusal_of p.end.knows.shares ≡ None) × GivesSeat None p q r

-- why a receiver is not made: the transmitter needs its last share, or memory runs out
abbrev pub IsUnheard : TransmitterSide → ℤ → Type 0
IsUnheard p code =
    ((code ≡ NO_SHARES) × (subscribe_refusal_of p.end.knows.shares ≡ Some NoShares)) ⊎ (code ≡ OUT_OF_MEMORY)

-- What both kinds say --------------------------------------------------------------

-- how often the receiver was lapped so far is put out
abbrev pub SaysLapped : {M : Type 0} → ℕ → Hearing M → Hearing M → ℤ → Type 0
SaysLapped count r s code = (code ≡ DONE) × (s ≡ r) × (count ≡ laps_of r.end)

-- the position at which the next call looks for a record is put out
abbrev pub SaysPlace : {M : Type 0} → ℕ → Hearing M → Hearing M → ℤ → Type 0
SaysPlace place r s code = (code ≡ DONE) × (s ≡ r) × (place ≡ place_of_end r.end)

-- what a look at the last lap puts out: where the receiver looked for a record, and the intent that showed the lap
pub record LapOut : Type 0 where
  pub place : ℕ
  pub intent : ℕ

abbrev pub lap_out : ℕ → ℕ → LapOut
lap_out place intent = record { place = place; intent = intent }

-- the last lap is put out; NO_MESSAGE if there was none
abbrev pub TellsLap : LapOut → LapOut → Option Lapped → ℤ → Type 0
TellsLap before after lap code = MatchOption lap ((code ≡ NO_MESSAGE) × (after ≡ before))
    (λ l. (code ≡ DONE) × (after ≡ lap_out l.place l.intent))

abbrev pub SaysLap : {M : Type 0} → LapOut → LapOut → Hearing M → Hearing M → ℤ → Type 0
SaysLap before after r s code = (s ≡ r) × TellsLap before after r.lap code

-- what a look for the next record puts out: its type id and length, and how often the receiver was lapped
pub record Seen : Type 0 where
  pub type_id : ℤ
  pub len : ℕ
  pub lapped : ℕ

abbrev pub seen : ℤ → ℕ → ℕ → Seen
seen type_id len lapped = record { type_id = type_id; len = len; lapped = lapped }

-- the code of such a look: DONE if there was a record, NO_MESSAGE if there was none, LAPPED if the receiver was lapped
abbrev pub next_code : {T : Type 0} → Result (Option T) Lapped → ℤ
next_code (Ok (Some found)) = DONE
next_code (Ok None) = NO_MESSAGE
next_code (Err lapped) = LAPPED

-- what it puts out, if a record was found that is seen so
abbrev pub next_seen : {T : Type 0} → (T → ℕ → Seen) → Result (Option T) Lapped → Seen → Seen
next_seen of (Ok (Some found)) before = of found before.lapped
next_seen of (Ok None) before = before
next_seen of (Err lapped) before = record before { lapped = lapped.count }

-- the last lap after it
abbrev pub next_lap : {T : Type 0} → Result (Option T) Lapped → Option Lapped → Option Lapped
next_lap (Ok found) lap = lap
next_lap (Err lapped) lap = Some lapped

-- Receiving ----------------------------------------------------------------------

-- what a receive puts out: what was seen, and the buffer
pub record HeardOut : Type 0 where
  pub seen : Seen
  pub buffer : List ℕ

abbrev pub heard_out : ℤ → ℕ → ℕ → List ℕ → HeardOut
heard_out type_id len lapped buffer = record { seen = seen type_id len lapped; buffer = buffer }

-- after code 0 a message was copied, and as much of it as the buffer has room for is at its front; after another code
-- none was
abbrev pub CopiesOut : HeardOut → HeardOut → Listening → Listening → ℤ → Type 0
CopiesOut before after r s code = ((code ≡ DONE) × ((place : ℕ) × (body : List ℕ) × (length body ≡ after.seen.len)
    × IsAtFront before.buffer after.buffer body × CopiesOne place after.seen.type_id body r.end s.end))
    ⊎ ((code ≢ DONE) × (copied s.end ≡ copied r.end))

-- a message as it is seen
abbrev pub heard_as : Heard → ℕ → Seen
heard_as h lapped = seen h.type_id h.len lapped

-- a message was copied, or none was there, or the receiver was lapped, which is kept
abbrev pub HearsNext : HeardOut → HeardOut → Listening → Listening → ℤ → Type 0
HearsNext before after r s code = (x : Result (Option Heard) Lapped) × (code ≡ next_code x)
    × (after.seen ≡ next_seen heard_as x before.seen) × (s ≡ record r { end = s.end; lap = next_lap x r.lap })
    × DoesAt (Hears before.buffer after.buffer) r.end x s.end

-- a buffer that has no room for the longest message is refused, and that length is put out; otherwise the receiver
-- receives
abbrev pub Received : HeardOut → HeardOut → Listening → Listening → ℤ → Type 0
Received before after r s code = ((length before.buffer < r.end.capacity / 8) × (code ≡ SHORT_BUFFER) × (s ≡ r)
    × (after ≡ record before { seen = record before.seen { len = r.end.capacity / 8 } }))
    ⊎ ((r.end.capacity / 8 ≤ length before.buffer) × HearsNext before after r s code)
