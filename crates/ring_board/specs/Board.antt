-- A broadcast buffer in a caller's words. These are the records that a transmitter transmitted, and those that a
-- receiver copied.
use Rattle.std.specs.Prelude.{◌≡◌, ◌<◌, ℕ, ℤ, suc, List, [], ◌∷◌, ◌++◌, length, Option, Result, MatchOption, MatchResult}
use Rattle.ring_board.specs.declared.shared.view.{Joined.Joined, Record.Record, Taken.Taken}
use Rattle.ring_board.specs.declared.{fault.Lapped.Lapped, board.Receiver.Receiver, board.Copied.Copied}
use Rattle.ring_board.specs.declared.board.{Transmitter.Transmitter, RawRecord.RawRecord, CopyReceiver.CopyReceiver}
use Rattle.ring_board.specs.Records.{last_of}

-- the records that were transmitted, the oldest first, each with its place and its message
abbrev pub transmitted : Transmitter → List Record
transmitted t = t.seat.me.0.sent

-- the place of the last transmitted record, or the start if there is none
abbrev pub latest_of : Transmitter → ℕ
latest_of t = last_of t.seat.me.0.start (transmitted t)

-- the receivers that were joined, the oldest first, each with what it copied
abbrev pub heard_by : Transmitter → List Joined
heard_by t = t.seat.me.0.heard

-- the place at which a raw receiver subscribed
abbrev pub raw_subscribed_at : Receiver → ℕ
raw_subscribed_at r = r.seat.me.0.from

-- the records that a raw receiver returned, each with the body that the transmitter gave it
abbrev pub returned : Receiver → List Taken
returned r = r.seat.me.0.copies

-- the place of a raw receiver, at which it looks for the next record
abbrev pub raw_place_in : Receiver → ℕ
raw_place_in r = r.seat.me.0.at

abbrev pub raw_lapped_count_of : Receiver → ℕ
raw_lapped_count_of r = r.seat.me.0.count

-- the place at which a copying receiver subscribed, by the raw receiver inside it
abbrev pub subscribed_at : CopyReceiver → ℕ
subscribed_at r = raw_subscribed_at r.receiver

-- the messages that a copying receiver copied
abbrev pub copied : CopyReceiver → List Taken
copied r = returned r.receiver

abbrev pub place_in : CopyReceiver → ℕ
place_in r = raw_place_in r.receiver

abbrev pub lapped_count_of : CopyReceiver → ℕ
lapped_count_of r = raw_lapped_count_of r.receiver

-- a copy of this message, whose record is at this place, after the receiver was lapped this many times
abbrev pub new_copy : ℕ → ℤ → List ℕ → ℕ → Taken
new_copy place type_id body laps =
    record { place = place; message = record { type_id = type_id; body = body }; count = laps }

-- The receiver was lapped. Nothing came, and the count rose by one. The receiver went on to latest, which is after the
-- place at which it was lapped.
abbrev pub LapsOnce : Lapped → Receiver → Receiver → Type 0
LapsOnce l old new = (returned new ≡ returned old) × (raw_lapped_count_of new ≡ suc (raw_lapped_count_of old))
    × (l.place < raw_place_in new)

-- `receive` copied nothing, or copied the message that it returned, or the receiver was lapped
abbrev pub CopiesNext : CopyReceiver → CopyReceiver → Result (Option Copied) Lapped → Type 0
CopiesNext old new result = MatchResult result
    (λ o. (lapped_count_of new ≡ lapped_count_of old) × MatchOption o (copied new ≡ copied old)
    (λ c. copied new ≡ copied old ++ new_copy c.place c.type_id c.body.now (lapped_count_of old) ∷ []))
    (λ l. LapsOnce l old.receiver new.receiver)

-- `receive_next` returned nothing, or returned one more record, or the receiver was lapped
abbrev pub ReturnsNext : Receiver → Receiver → Result (Option RawRecord) Lapped → Type 0
ReturnsNext old new result = MatchResult result
    (λ o. (raw_lapped_count_of new ≡ raw_lapped_count_of old) × MatchOption o (returned new ≡ returned old)
    (λ r. (body : List ℕ) × (length body ≡ r.len)
    × (returned new ≡ returned old ++ new_copy r.place r.type_id body (raw_lapped_count_of old) ∷ [])))
    (λ l. LapsOnce l old new)
