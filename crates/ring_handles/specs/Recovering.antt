-- What a call puts out about the memory that a ring left.
use Rattle.std.specs.Prelude.{◌≡◌, ◌≢◌, ◌⊎◌, ℕ, ◌*◌, ◌<◌, ◌≤◌, ℤ, List, length, MatchOption, Option}
use Rattle.std.specs.Int.{cast_signed, w64}
use Rattle.ring_layout.specs.{Layout.ring_words, Places.IsCapacity, declared.message.Message.Message}
use Rattle.ring_snapshot.specs.declared.ring_finding.RingFinding.{RingFinding}
use Rattle.ring_snapshot.specs.declared.ring_finding.RingFinding.TheVariants.{BadBodies, BadLength, BadSize, BadType, OutsideOfRecords, TailBeforeHead, TailTooFar, UnalignedPosition}
use Rattle.ring_recovery.specs.{Headers.finding_of, Image.Remains, declared.recovered.Recovered.Recovered}
use Rattle.ring_recovery.specs.Recovered.{IsRecoveredOf, Reads, all_placed, messages_left}
use Rattle.ring_rings.specs.Reading.{messages_of}
use Rattle.ring_handles.specs.Batch.{Batch, batch, laid, laid_end}
use Rattle.ring_handles.specs.declared.code.TheConstants.{BAD_HEADER_LENGTH, BAD_HEADER_TYPE, DONE, NO_IMAGE, SHORT_BUFFER, TAIL_BEFORE_HEAD, TAIL_TOO_FAR, UNALIGNED_POSITION}

-- the messages that are still to come, without their places
abbrev pub still_to_come : Recovered → List Message
still_to_come r = messages_of (all_placed (messages_left r))

-- what the call puts out: how many claims were open, the messages, and for a finding its place and what is there
pub record Recovery : Type 0 where
  pub open_claims : ℕ
  pub messages : Batch
  pub place : ℕ
  pub found : ℤ

abbrev pub recovery : ℕ → Batch → ℕ → ℤ → Recovery
recovery open_claims messages place found =
    record { open_claims = open_claims; messages = messages; place = place; found = found }

-- Messages -----------------------------------------------------------------------

-- the number of open claims of r, its messages and the bytes that they take are put out, with this buffer
abbrev pub with_messages : Recovered → List ℕ → Recovery → Recovery
with_messages r buffer before = record before {
  open_claims = r.open_claims;
  messages = batch (length (messages_left r)) (laid_end 0 (still_to_come r)) buffer;
}

-- Each message of r is in the buffer, whole, once and in order, from the front on. Otherwise the buffer is too short
-- for all of them, and stays as it was. In both cases the number of bytes that they take is put out. This number is at
-- most twice the capacity
pub record LaysAll (r : Recovered) (before after : Recovery) (code : ℤ) : Type 0 where
  pub within : laid_end 0 (still_to_come r) ≤ 2 * r.capacity
  pub lays : ((code ≡ DONE) × (laid_end 0 (still_to_come r) ≤ length before.messages.buffer)
      × (after ≡ with_messages r (laid 0 (still_to_come r) before.messages.buffer) before))
      ⊎ ((code ≡ SHORT_BUFFER) × (length before.messages.buffer < laid_end 0 (still_to_come r))
      × (after ≡ with_messages r before.messages.buffer before))

-- something was recovered of which this holds, and it is laid
abbrev pub LaysRecovered : (Recovered → Type 0) → Recovery → Recovery → ℤ → Type 0
LaysRecovered Holds before after code = (r : Recovered) × (Holds r × LaysAll r before after code)

-- Findings -----------------------------------------------------------------------

-- the code of a finding
abbrev pub finding_code : RingFinding → ℤ
finding_code (BadSize words) = NO_IMAGE
finding_code (BadBodies words) = NO_IMAGE
finding_code (UnalignedPosition head tail) = UNALIGNED_POSITION
finding_code (TailBeforeHead head tail) = TAIL_BEFORE_HEAD
finding_code (TailTooFar head tail) = TAIL_TOO_FAR
finding_code (OutsideOfRecords position) = NO_IMAGE
finding_code (BadLength index len) = BAD_HEADER_LENGTH
finding_code (BadType index type_id) = BAD_HEADER_TYPE

-- The place of a finding is put out, and what is there. A finding about the number of words or slots puts out nothing,
-- since the caller knows both numbers
abbrev pub with_finding : RingFinding → Recovery → Recovery
with_finding (BadSize words) before = before
with_finding (BadBodies words) before = before
with_finding (UnalignedPosition head tail) before = record before { place = head; found = cast_signed w64 tail }
with_finding (TailBeforeHead head tail) before = record before { place = head; found = cast_signed w64 tail }
with_finding (TailTooFar head tail) before = record before { place = head; found = cast_signed w64 tail }
with_finding (OutsideOfRecords position) before = before
with_finding (BadLength index len) before = record before { place = index; found = len }
with_finding (BadType index type_id) before = record before { place = index; found = type_id }

-- nothing is recovered, and the finding is put out
abbrev pub Finds : RingFinding → Recovery → Recovery → ℤ → Type 0
Finds finding before after code = (code ≡ finding_code finding) × (after ≡ with_finding finding before)

-- If there is a finding, it is put out. Otherwise something was recovered of which this holds, and it is laid
abbrev pub LaysOrFinds : Option RingFinding → (Recovered → Type 0) → Recovery → Recovery → ℤ → Type 0
LaysOrFinds finding Holds before after code =
    MatchOption finding (LaysRecovered Holds before after code) (λ f. Finds f before after code)

-- The call ---------------------------------------------------------------------

-- What the call does with these words and slots. If a ring left them, the call lays exactly the messages of
-- `IsRecoveredOf`. If no ring has this many words, the call puts out this finding. For any other memory it puts out the
-- first finding, and if there is none, it lays the committed messages of the headers
pub record Recovers (words slots : List ℕ) (before after : Recovery) (code : ℤ) : Type 0 where
  pub recovered : (C start : ℕ) (m : Remains C start words slots)
      → LaysRecovered (λ r. IsRecoveredOf m.rule.kept.hist m.rule.kept.consumer r) before after code
  pub no_ring : ((C : ℕ) → IsCapacity C → length words ≢ ring_words C)
      → Finds (BadSize (length words)) before after code
  pub ring : (C : ℕ) → IsCapacity C → length words ≡ ring_words C
      → LaysOrFinds (finding_of C words slots) (λ r. Reads C words slots r) before after code
