-- What calls of a raw receiver's handle do: r is the receiver before, s after, and the code is what is returned.
use Rattle.std.specs.Prelude.{◌≡◌, ◌≢◌, ◌⊎◌, ℕ, ◌<◌, ◌≤◌, ℤ, Bool, true, List, length, take, drop, MatchOption, Result, Ok, Err, Option, None, Some, IsSome, if◌then◌else◌}
use Rattle.ring_layout.specs.Refusals.{share_refusal_of}
use Rattle.ring_board.specs.declared.{board.RawRecord.RawRecord, fault.Lapped.Lapped}
use Rattle.ring_board.specs.Bodies.{GaveBody, IsRight, Validated}
use Rattle.ring_board.specs.Seats.{len_of, place_of, type_id_of}
use Rattle.ring_ends.specs.BoardEnd.{copied, CopiesOne, DoesAt, Looks}
use Rattle.ring_handles.specs.declared.boards.TransmitterSide.{TransmitterSide}
use Rattle.ring_handles.specs.Boards.{latest_of, next_code, next_lap, next_seen, seen, ByItsEnd, GivesSeat, Seen, Watching}
use Rattle.ring_layout.specs.declared.refusal_codes.TheConstants.{LAPPED, NO_SHARES, OUT_OF_MEMORY}
use Rattle.ring_handles.specs.declared.code.TheConstants.{DONE, NO_MESSAGE, SHORT_BUFFER}

-- Subscribing --------------------------------------------------------------------

-- a share was moved to a raw receiver, which has returned nothing
abbrev pub SubscribesRaw : TransmitterSide → TransmitterSide → Watching → Type 0
SubscribesRaw p q r = (share_refusal_of p.end.knows.shares ≡ None) × GivesSeat None p q r

-- why it is not made: the transmitter needs its last share, or memory runs out
abbrev pub IsUnwatched : TransmitterSide → ℤ → Type 0
IsUnwatched p code = ((code ≡ NO_SHARES) × IsSome (share_refusal_of p.end.knows.shares)) ⊎ (code ≡ OUT_OF_MEMORY)

-- Records ------------------------------------------------------------------------

-- after code 0 a record of this type id and length was returned, and after another code none was
abbrev pub ReturnsOut : Seen → Watching → Watching → ℤ → Type 0
ReturnsOut after r s code = ((code ≡ DONE) × ((place : ℕ) × (body : List ℕ) × (length body ≡ after.len)
    × CopiesOne place after.type_id body r.end s.end))
    ⊎ ((code ≢ DONE) × (copied s.end ≡ copied r.end))

-- a record as it is seen
abbrev pub raw_as : RawRecord → ℕ → Seen
raw_as raw lapped = seen (type_id_of raw) (len_of raw) lapped

-- the record that was returned last after a look for the next one
abbrev pub next_latest : Result (Option RawRecord) Lapped → Option RawRecord → Option RawRecord
next_latest (Ok (Some raw)) latest = Some raw
next_latest (Ok None) latest = latest
next_latest (Err lapped) latest = latest

-- a record was returned, or there was none, or the receiver was lapped, which is kept
abbrev pub NextSeen : Seen → Seen → Watching → Watching → ℤ → Type 0
NextSeen before after r s code = (x : Result (Option RawRecord) Lapped) × (code ≡ next_code x)
    × (after ≡ next_seen raw_as x before)
    × (s ≡ record r { end = s.end; lap = next_lap x r.lap; own = next_latest x (latest_of r) })
    × DoesAt Looks r.end x s.end

-- Bodies -------------------------------------------------------------------------

-- words were loaded at the record's body, and their bytes are at the front of the buffer
pub record LoadsBodyInto (raw : RawRecord) (before after : List ℕ) (r s : Watching) : Type 0 where
  pub room : len_of raw ≤ length before
  pub gave : ByItsEnd {R = Unit {0}} (λ m _ n. GaveBody (place_of raw) (take (len_of raw) after) m n) r tt s
  pub rest : drop (len_of raw) after ≡ drop (len_of raw) before

-- of the latest record the body was loaded, or the buffer is too short; NO_MESSAGE if none was returned yet
abbrev pub BodyLoaded : List ℕ → List ℕ → Watching → Watching → ℤ → Type 0
BodyLoaded before after r s code = MatchOption (latest_of r) ((code ≡ NO_MESSAGE) × (s ≡ r) × (after ≡ before))
    (λ raw. ((code ≡ DONE) × LoadsBodyInto raw before after r s)
    ⊎ ((length before < len_of raw) × (code ≡ SHORT_BUFFER) × (s ≡ r) × (after ≡ before)))

-- an intent was loaded, and DONE returned if it shows that the record was not overwritten, and otherwise LAPPED. If it
-- was not, each body of it that was loaded before is the one that was transmitted
pub record Tests (raw : RawRecord) (r s : Watching) (code : ℤ) : Type 0 where
  pub valid : Bool
  pub looked : ByItsEnd (λ m x n. Validated raw x m n) r valid s
  pub code_is : code ≡ (if valid then DONE else LAPPED)
  pub right : valid ≡ true → IsRight r.end.knows.0 raw

-- the latest record was tested; NO_MESSAGE if none was returned yet
abbrev pub Tested : Watching → Watching → ℤ → Type 0
Tested r s code = MatchOption (latest_of r) ((code ≡ NO_MESSAGE) × (s ≡ r)) (λ raw. Tests raw r s code)
