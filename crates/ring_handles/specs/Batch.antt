-- How messages are laid one after another into a buffer.
use Rattle.std.specs.Prelude.{◌≡◌, ◌≢◌, ◌⊎◌, ℕ, ◌+◌, ◌*◌, ◌/◌, ◌<◌, ◌≤◌, ℤ, true, false, List, [], ◌∷◌, ◌++◌, length}
use Rattle.std.specs.Int.{cast_unsigned, to_le_bytes, w64}
use Rattle.ring_layout.specs.{declared.message.Message.Message, History.overwritten}
use Rattle.ring_table.specs.declared.{claim.PlacedMessage.PlacedMessage, view.View.View}
use Rattle.ring_words.specs.declared.read.action.Action.{Action, TheVariants.Abort, TheVariants.Continue}
use Rattle.ring_words.specs.declared.read.end.Stop.{Stop}
use Rattle.ring_rings.specs.Reading.{FoundUnsettled, IsNext, messages_of}
use Rattle.ring_ends.specs.{End.AreOfOneRing, Next.CameToEnd, Next.HadNone, Next.RanOut, Next.ReadsOn, Next.TookNone}
use Rattle.ring_handles.specs.{Consuming.ReceivesThose, Side.Reading, declared.batch.Laying.Laying}
use Rattle.ring_handles.specs.declared.code.TheConstants.{DONE, NO_MESSAGE, SHORT_BUFFER}

-- the bytes that a message of n bytes takes: two words, and its own, rounded up to 8
abbrev pub span_in : ℕ → ℕ
span_in n = 16 + (n + 7) / 8 * 8

-- the bytes with a length and a type id as words in place of their own from `at` on
abbrev pub headed : ℕ → ℤ → ℕ → List ℕ → List ℕ
headed at type_id len bytes = overwritten (at + 8) (to_le_bytes w64 (cast_unsigned w64 type_id))
    (overwritten at (to_le_bytes w64 len) bytes)

-- the bytes with a message in place of their own from `at` on: its length and its type id as words, and its body
abbrev pub placed : ℕ → Message → List ℕ → List ℕ
placed at m bytes = overwritten (at + 16) m.body (headed at m.type_id (length m.body) bytes)

-- the bytes with these messages one after another from `at` on
abbrev pub laid : ℕ → List Message → List ℕ → List ℕ
laid at [] bytes = bytes
laid at (m ∷ ms) bytes = laid (at + span_in (length m.body)) ms (placed at m bytes)

-- the end of these
abbrev pub laid_end : ℕ → List Message → ℕ
laid_end at [] = at
laid_end at (m ∷ ms) = laid_end (at + span_in (length m.body)) ms

-- The handler --------------------------------------------------------------------

-- there was room, and the message is after those before it
pub record LaysIn (s : Laying) (m : Message) (t : Laying) (a : Action) : Type 0 where
  pub room : s.used + span_in (length m.body) ≤ length s.buffer.now
  pub action : a ≡ Continue
  pub buffer : t.buffer.now ≡ placed s.used m s.buffer.now
  pub used : t.used ≡ s.used + span_in (length m.body)
  pub full : t.is_full ≡ s.is_full
  pub size : length t.buffer.now ≡ length s.buffer.now
  -- it is the same buffer
  pub borrow : t.buffer.ghost_name ≡ s.buffer.ghost_name

-- there was not, and the message stays
pub record LeavesOut (s : Laying) (m : Message) (t : Laying) (a : Action) : Type 0 where
  pub short : length s.buffer.now < s.used + span_in (length m.body)
  pub action : a ≡ Abort
  pub buffer : t.buffer.now ≡ s.buffer.now
  pub used : t.used ≡ s.used
  pub full : t.is_full ≡ true
  -- it is the same buffer
  pub borrow : t.buffer.ghost_name ≡ s.buffer.ghost_name

abbrev pub Lays : Laying → Message → Laying → Action → Type 0
Lays s m t a = LaysIn s m t a ⊎ LeavesOut s m t a

-- A batch ------------------------------------------------------------------------

-- what a batch puts out: how many messages were laid, the bytes that they take, and the buffer
pub record Batch : Type 0 where
  pub count : ℕ
  pub used : ℕ
  pub buffer : List ℕ

abbrev pub batch : ℕ → ℕ → List ℕ → Batch
batch count used buffer = record { count = count; used = used; buffer = buffer }

-- after this many of the bytes there is no room for the message at the new head
pub record HasNoRoomAt (used : ℕ) (bytes : List ℕ) (v w : View) : Type 0 where
  pub message : Message
  pub next : IsNext v w message
  pub short : length bytes < used + span_in (length message.body)

-- why no more messages came than these: they are as many as were asked for, there is no room for the next one, no
-- settled record was at the new head, or the read came to the end of the ring's buffer
abbrev pub NoMoreCame : ℕ → View → View → List ℕ → List PlacedMessage → Type 0
NoMoreCame limit v w bytes messages = (length messages ≡ limit)
    ⊎ (HasNoRoomAt (laid_end 0 (messages_of messages)) bytes v w ⊎ (FoundUnsettled v w ⊎ CameToEnd v w))

-- some messages were taken, at most this many, and are at the front of the buffer, which was these bytes
pub record TookSome (limit : ℕ) (v w : View) (bytes : List ℕ) (after : Batch) : Type 0 where
  pub messages : List PlacedMessage
  pub some : messages ≢ []
  pub taken : w.consumer.taken ≡ v.consumer.taken ++ messages
  pub within : length messages ≤ limit
  pub room : laid_end 0 (messages_of messages) ≤ length bytes
  pub stops : NoMoreCame limit v w bytes messages
  pub outs : after ≡ batch (length messages) (laid_end 0 (messages_of messages)) (laid 0 (messages_of messages) bytes)

-- the bytes have no room for the message at the new head
abbrev pub IsShort : List ℕ → View → View → Type 0
IsShort = HasNoRoomAt 0

-- none was taken, and the buffer is as before: it is too short for the first one, or the read ran out
pub record LaidNone (limit : ℕ) (stopped : Stop) (v w : View) (s t : Laying) : Type 0 where
  pub taken : w.consumer.taken ≡ v.consumer.taken
  pub buffer : t.buffer.now ≡ s.buffer.now
  pub full : t.is_full ≡ true → IsShort s.buffer.now v w
  pub out : t.is_full ≡ false → RanOut limit stopped v w

-- messages were taken and are put out; or none was taken, for a reason, and nothing is put out: the code is NO_MESSAGE
-- if none was there, and SHORT_BUFFER if the buffer is too short for the first one, which stays
abbrev pub TookBatch : (View → View → Type 0) → ℕ → View → View → Batch → Batch → ℤ → Type 0
TookBatch Why limit v w before after code = ((code ≡ DONE) × TookSome limit v w before.buffer after)
    ⊎ (((code ≡ NO_MESSAGE) × TookNone Why v w × (after ≡ before))
    ⊎ ((code ≡ SHORT_BUFFER) × TookNone (IsShort before.buffer) v w × (after ≡ before)))

-- messages were read, or none was
abbrev pub ReadsBatch : (View → View → Type 0) → ℕ → Batch → Batch → Reading → Reading → ℤ → Type 0
ReadsBatch Why limit before after r s code = (s ≡ record r { end = s.end }) × AreOfOneRing r.end s.end
    × ReadsOn r.end.view s.end.view × TookBatch Why limit r.end.view s.end.view before after code

abbrev pub ReadBatch : ℕ → Batch → Batch → Reading → Reading → ℤ → Type 0
ReadBatch limit = ReadsBatch (HadNone limit) limit

-- after code 0 the messages that are put out were received
abbrev pub ReceivesBatch : Batch → Batch → Reading → Reading → ℤ → Type 0
ReceivesBatch before after =
    ReceivesThose (λ ms. (after.count ≡ length ms) × (after.buffer ≡ laid 0 ms before.buffer))
