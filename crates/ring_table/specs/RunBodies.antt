-- Messages that are written together, and how their records are put into the slots of a run.
use Rattle.std.specs.Prelude.{◌≡◌, ℕ, ◌+◌, ◌%◌, ◌<◌, List, [], ◌∷◌, length}
use Rattle.ring_layout.specs.{declared.message.Message.Message, History.IsMessage}
use Rattle.ring_table.specs.{Changes.blank, Staged.StagedClaim, Staged.Padded, Staged.body_word, Staged.staged_span}
pub use Rattle.ring_table.specs.declared.runs.Outgoing.{Outgoing}

-- the message that is to be written
abbrev pub message_of : Outgoing → Message
message_of o = record { type_id = o.type_id; body = o.body.now }

abbrev pub messages_of : List Outgoing → List Message
messages_of [] = []
messages_of (o ∷ os) = message_of o ∷ messages_of os

-- a ring of this capacity may have it
abbrev pub IsSendable : ℕ → Outgoing → Type 0
IsSendable C o = IsMessage C (blank o.type_id (length o.body.now))

-- the bytes have the words of these bytes from `at` on
abbrev pub LiesAt : ℕ → List ℕ → List ℕ → Type 0
LiesAt at bytes run = (o : ℕ) → o % 8 ≡ 0 → o < length bytes → body_word run (at + o) ≡ body_word bytes o

-- the claim's header is not stored, it has no padding, and its record has this many bytes
pub record NeedsRun (bytes : ℕ) (c : StagedClaim) : Type 0 where
  pub stage : c.stage ≡ Padded
  pub plain : c.from ≡ c.place
  pub span_is : staged_span c ≡ bytes
