-- Batches that a producer writes: bytes with the records of messages, one after another, as in a batch that was read.
use Rattle.std.specs.Prelude.{◌≡◌, ◌⊎◌, ℕ, ◌+◌, ◌/◌, ◌^◌, ◌<◌, ◌≤◌, ℤ, pos, List, [], ◌∷◌, ◌++◌, length, take, drop, Bool}
use Rattle.std.specs.Int.{from_le_bytes, w64}
use Rattle.ring_layout.specs.declared.message.Message.{Message}
use Rattle.ring_table.specs.declared.view.View.{View}
use Rattle.ring_rings.specs.{Ring.sent_in, Seats.OpensNoneAt}
use Rattle.ring_handles.specs.{Batch.laid_end, Batch.span_in, Producing.IsRefused, Side.Side, Side.knowing}
use Rattle.ring_layout.specs.declared.refusal_codes.TheConstants.{BAD_TYPE, PUT_RANGE, TOO_LONG}
use Rattle.ring_handles.specs.declared.code.TheConstants.{DONE}

-- Records ------------------------------------------------------------------------

-- the word that begins at this byte
abbrev pub word_at : List ℕ → ℕ → ℕ
word_at bytes at = from_le_bytes w64 (drop at bytes)

-- the message whose record begins at this byte: its length and its type id as words, and its body
abbrev pub message_at : List ℕ → ℕ → Message
message_at bytes at =
    record { type_id = pos (word_at bytes (at + 8)); body = take (word_at bytes at) (drop (at + 16) bytes) }

-- the length, the type id and the body of the record that begins at this byte are inside the bytes
abbrev pub IsInside : List ℕ → ℕ → Type 0
IsInside bytes at = at + 16 + word_at bytes at ≤ length bytes

-- the type id is 1 to 2^31 - 1
abbrev pub HasType : List ℕ → ℕ → Type 0
HasType bytes at = (0 < word_at bytes (at + 8)) × (word_at bytes (at + 8) < 2 ^ 31)

-- a ring of this capacity may have the message whose record begins at this byte
pub record IsRecord (C : ℕ) (bytes : List ℕ) (at : ℕ) : Type 0 where
  pub inside : IsInside bytes at
  pub type_id : HasType bytes at
  pub short : word_at bytes at ≤ C / 8

-- The code that says why it is refused. The first of these tests that fails has its code: the record is inside the
-- bytes, the type id is one of a message, and the message is not too long
abbrev pub IsBadRecord : ℕ → List ℕ → ℕ → ℤ → Type 0
IsBadRecord C bytes at code = ((code ≡ PUT_RANGE) × (length bytes < at + 16 + word_at bytes at))
    ⊎ (IsInside bytes at × (((code ≡ BAD_TYPE) × (HasType bytes at → ⊥))
    ⊎ (HasType bytes at × (code ≡ TOO_LONG) × (C / 8 < word_at bytes at))))

-- these messages are in the records from this byte on, one after another
abbrev pub AreRecords : ℕ → List ℕ → ℕ → List Message → Type 0
AreRecords C bytes at [] = Unit {0}
AreRecords C bytes at (m ∷ ms) = IsRecord C bytes at × (m ≡ message_at bytes at)
    × AreRecords C bytes (at + span_in (length m.body)) ms

-- Batches ------------------------------------------------------------------------

-- From this byte on the bytes have exactly these messages. The padding after the last body may be missing
pub record HasRest (C : ℕ) (bytes : List ℕ) (at : ℕ) (ms : List Message) : Type 0 where
  pub records : AreRecords C bytes at ms
  pub whole : length bytes ≤ laid_end at ms

-- from `start` on these messages come first, and after them what is from `end` on
abbrev pub Begins : ℕ → List ℕ → ℕ → List Message → ℕ → Type 0
Begins C bytes start first end = (ms : List Message) → HasRest C bytes start ms
    → (rest : List Message) × (ms ≡ first ++ rest) × HasRest C bytes end rest

-- the bytes are a batch of these messages
pub record IsBatch (C : ℕ) (bytes : List ℕ) (ms : List Message) : Type 0 where
  pub size : length bytes < 2 ^ 32
  pub rest : HasRest C bytes 0 ms

-- this is the code of the first record that is refused
pub record HasBadRecord (C : ℕ) (bytes : List ℕ) (code : ℤ) : Type 0 where
  pub size : length bytes < 2 ^ 32
  pub before : List Message
  pub records : AreRecords C bytes 0 before
  pub left : laid_end 0 before < length bytes
  pub bad : IsBadRecord C bytes (laid_end 0 before) code

-- the code that says why the bytes are no batch
abbrev pub IsNoBatch : ℕ → List ℕ → ℤ → Type 0
IsNoBatch C bytes code = ((code ≡ PUT_RANGE) × (2 ^ 32 ≤ length bytes)) ⊎ HasBadRecord C bytes code

-- Writing ------------------------------------------------------------------------

-- Of these messages the first n were written, and the next one was refused with this code by a try of its own
pub record StopsAt (many : Bool) (C : ℕ) (ms : List Message) (n : ℕ) (code : ℤ) (v w : View) : Type 0 where
  pub written : List Message
  pub next : Message
  pub later : List Message
  pub split : ms ≡ written ++ next ∷ later
  pub count : n ≡ length written
  pub sent : sent_in w ≡ sent_in v ++ written
  -- what the producer knew before that try
  pub before : View
  pub so_far : sent_in before ≡ sent_in v ++ written
  pub refused : IsRefused many C next.type_id (length next.body) before w code

-- 0 says that all messages were written, and another code why the next one was refused
abbrev pub WritesSome : Bool → ℕ → List Message → ℕ → ℤ → View → View → Type 0
WritesSome many C ms n code v w = ((code ≡ DONE) × (n ≡ length ms) × (sent_in w ≡ sent_in v ++ ms))
    ⊎ StopsAt many C ms n code v w

-- the messages of a batch were written, all or the first ones
pub record WroteSome (bytes : List ℕ) (n : ℕ) (p q : Side) (code : ℤ) : Type 0 where
  pub messages : List Message
  pub batch : IsBatch p.capacity bytes messages
  pub side : q ≡ knowing q.view p
  pub keeps : OpensNoneAt p.capacity p.view q.view
  pub written : WritesSome p.many p.capacity messages n code p.view q.view

-- the messages of a batch were written; or the bytes are no batch, and then nothing was written
abbrev pub WroteBatch : List ℕ → ℕ → Side → Side → ℤ → Type 0
WroteBatch bytes n p q code = WroteSome bytes n p q code ⊎ (IsNoBatch p.capacity bytes code × (n ≡ 0) × (q ≡ p))
