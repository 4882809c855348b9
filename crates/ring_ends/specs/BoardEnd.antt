-- An end of a broadcast buffer: a transmitter or a receiver with its buffer, and what a call of it did.
use Rattle.std.specs.Prelude.{◌≡◌, ◌+◌, ℕ, ℤ, [], ◌∷◌, ◌++◌, List, length, take, Option, Result, Ok, Err, MatchOption, MatchResult, OnErr, OnOk}
use Rattle.atomic_table.specs.Seated.{TableId}
use Rattle.ring_layout.specs.History.{overwritten}
use Rattle.ring_board.specs.{declared.board.Board.Board, declared.board.RawRecord.RawRecord, TransmitterSteps.sent_on}
use Rattle.ring_board.specs.{declared.fault.Lapped.Lapped, declared.fault.TransmitFault.TransmitFault, Board.new_copy}
use Rattle.ring_board.specs.declared.shared.view.{Joined.Joined, Record.Record, Taken.Taken, View.View}
use Rattle.ring_board.specs.{Records.end_of, Records.last_of, Views.fewer, Views.joined, Views.newcomer, Views.Sat}
use Rattle.ring_board.specs.{Runs.AreRuns, Refusals.transmit_refusal_of}
use Rattle.ring_board.specs.Receiving.{GotCopy, GotLapped, GotNothing, GotRecord}
use Rattle.ring_board.specs.Seats.{capacity_of, len_of, next_record, place_of, start_of, type_id_of, IsAnsweredRecord}
use Rattle.ring_ends.specs.declared.{lending.Shared.Shared, receiver.Heard.Heard}

pub record BoardEnd (S : Type 0) : Type 0 where
  -- which broadcast buffer it is
  pub table : TableId
  -- the bytes of its buffer
  pub capacity : ℕ
  -- the position at which it began
  pub start : ℕ
  -- what the end knows: a transmitter its view, and a receiver its view with the slots of its seat, which has none
  pub knows : S

-- the end of this broadcast buffer that knows this
abbrev pub end_at : {S : Type 0} → Board → S → BoardEnd S
end_at b s = record { table = b.table.shared.table_id; capacity = capacity_of b; start = start_of b; knows = s }

pub record Listener : Type 0 where
  -- the receiver with its broadcast buffer
  pub end : BoardEnd Sat
  -- what a conductor shares, if it is a receiver of one's
  pub lender : Option Shared

-- Words of a caller ----------------------------------------------------------------

-- the records that were transmitted, the oldest first, each with its place and its message
abbrev pub transmitted : BoardEnd View → List Record
transmitted t = t.knows.sent

-- where the last transmission of a transmitter that knows this ended, or the start
abbrev pub tail_in : View → ℕ
tail_in v = end_of v.start v.sent

-- the place of the last transmitted record, or the start
abbrev pub latest_at : BoardEnd View → ℕ
latest_at t = last_of t.knows.start (transmitted t)

-- the receivers that were joined, the oldest first, each with what it copied
abbrev pub heard_by : BoardEnd View → List Joined
heard_by t = t.knows.heard

-- what a receiver copied, or returned if it is a raw one
abbrev pub copied : BoardEnd Sat → List Taken
copied r = r.knows.0.copies

abbrev pub subscribed_at : BoardEnd Sat → ℕ
subscribed_at r = r.knows.0.from

-- the place at which a receiver looks for the next record
abbrev pub place_of_end : BoardEnd Sat → ℕ
place_of_end r = r.knows.0.at

-- how often a receiver was lapped
abbrev pub laps_of : BoardEnd Sat → ℕ
laps_of r = r.knows.0.count

-- both are ends of one broadcast buffer
abbrev pub AreOfOneBoard : {S T : Type 0} → BoardEnd S → BoardEnd T → Type 0
AreOfOneBoard p q = (q.table ≡ p.table) × (q.capacity ≡ p.capacity) × (q.start ≡ p.start)

-- What a call does -----------------------------------------------------------------

-- the call did this to what the end knows, and returned r; the rest stays
abbrev pub DoesAt : {S R : Type 0} → (S → R → S → Type 0) → BoardEnd S → R → BoardEnd S → Type 0
DoesAt Call p r q = (q ≡ record p { knows = q.knows }) × Call p.knows r q.knows

-- the message was transmitted, or nothing was
abbrev pub Transmits : ℤ → List ℕ → BoardEnd View → Result (Unit {0}) TransmitFault → BoardEnd View → Type 0
Transmits type_id body p r q =
    OnOk r (transmitted q ≡ transmitted p ++ next_record p.capacity (tail_in p.knows) type_id body ∷ [])
    × OnErr r (transmitted q ≡ transmitted p)

-- a message was appended to the transmitted list of a broadcast buffer of capacity C, or refused
abbrev pub Appends : ℕ → ℤ → List ℕ → View → Result (Unit {0}) TransmitFault → View → Type 0
Appends C type_id body v r w =
    MatchOption (transmit_refusal_of C (tail_in v) type_id (length body))
    ((r ≡ Ok tt) × (w ≡ sent_on v (next_record C (tail_in v) type_id body))) (λ fault. (r ≡ Err fault) × (w ≡ v))

-- a share was moved to this receiver, which starts at the record at latest and has copied none
pub record Seats (p q : BoardEnd View) (r : BoardEnd Sat) : Type 0 where
  pub left : q ≡ record p { knows = fewer p.knows }
  pub board : AreOfOneBoard p r
  pub knows : r.knows.0 ≡ newcomer p.knows

-- the receiver that knows this was taken back, with its share, and its copies are runs of the transmitted list
pub record TakesIn (p : BoardEnd View) (m : Sat) (q : BoardEnd View) : Type 0 where
  pub joined_is : q ≡ record p { knows = joined p.knows m.0 }
  pub shares : q.knows.shares ≡ p.knows.shares + 1
  pub runs : AreRuns (transmitted p) m.0.from m.0.copies

-- What a receiver did --------------------------------------------------------------

-- a message with this body, of this place and type id, was copied
abbrev pub CopiesOne : ℕ → ℤ → List ℕ → BoardEnd Sat → BoardEnd Sat → Type 0
CopiesOne place type_id body p q = copied q ≡ copied p ++ new_copy place type_id body (laps_of p) ∷ []

-- as much of the body as the buffer has room for is at its front
abbrev pub IsAtFront : List ℕ → List ℕ → List ℕ → Type 0
IsAtFront before after body = after ≡ overwritten 0 (take (length before) body) before

-- the message that was copied, or none
abbrev pub CopiesInto : List ℕ → List ℕ → BoardEnd Sat → Result (Option Heard) Lapped → BoardEnd Sat → Type 0
CopiesInto before after p r q = MatchResult r
    (λ o. MatchOption o (copied q ≡ copied p) (λ h. (body : List ℕ) × (length body ≡ h.len)
    × IsAtFront before after body × CopiesOne h.place h.type_id body p q))
    (λ l. copied q ≡ copied p)

-- the same of a record that was returned without its body
abbrev pub ReturnsOne : BoardEnd Sat → Result (Option RawRecord) Lapped → BoardEnd Sat → Type 0
ReturnsOne p r q = MatchResult r
    (λ o. MatchOption o (copied q ≡ copied p) (λ raw. (body : List ℕ) × (length body ≡ len_of raw)
    × CopiesOne (place_of raw) (type_id_of raw) body p q))
    (λ l. copied q ≡ copied p)

-- the next message was copied, and is at the front of the buffer
pub record HearsOne (h : Heard) (before after : List ℕ) (m n : Sat) : Type 0 where
  pub body : List ℕ
  pub len : length body ≡ h.len
  pub got : GotCopy h.place h.type_id body m n
  pub front : IsAtFront before after body

-- it was, or none was there, or the receiver was lapped
abbrev pub Hears : List ℕ → List ℕ → Sat → Result (Option Heard) Lapped → Sat → Type 0
Hears before after m r n = MatchResult r
    (λ o. MatchOption o (GotNothing m n × (after ≡ before)) (λ h. HearsOne h before after m n))
    (λ l. GotLapped l m n × (after ≡ before))

-- the next record was returned without its body, or none was there, or the receiver was lapped
abbrev pub Looks : Sat → Result (Option RawRecord) Lapped → Sat → Type 0
Looks m r n = MatchResult r
    (λ o. MatchOption o (GotNothing m n) (λ raw. GotRecord raw m n × IsAnsweredRecord n.0 raw)) (λ l. GotLapped l m n)

-- the records that the receiver returned stay returned
abbrev pub KeepsReturned : BoardEnd Sat → BoardEnd Sat → Type 0
KeepsReturned p q = (raw : RawRecord) → IsAnsweredRecord p.knows.0 raw → IsAnsweredRecord q.knows.0 raw
