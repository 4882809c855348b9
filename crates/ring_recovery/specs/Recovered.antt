-- What is recovered from the memory that a ring left.
use Rattle.std.specs.Prelude.{◌≡◌, ℕ, ◌≤◌, List, [], ◌∷◌, ◌++◌, ⊤}
use Rattle.ring_layout.specs.Lists.{Begins}
use Rattle.ring_recovery.specs.Headers.{all_headers, headers_between, messages_of, open_of, tail_of}
use Rattle.ring_recovery.specs.declared.{message.RecoveredMessage.RecoveredMessage, recovered.Recovered.Recovered}
use Rattle.ring_table.specs.{OpenClaims.AreBelow, Owners.OwnedHistory, Owners.all_of, Rescued.unsettled_count}
use Rattle.ring_table.specs.{Passing.AreSettled, Passing.placed_committed_of, declared.view.ConsumerView.ConsumerView}
use Rattle.ring_table.specs.declared.claim.{PlacedMessage.PlacedMessage, StagedClaim.StagedClaim}

-- the messages that are still to come
abbrev pub messages_left : Recovered → List RecoveredMessage
messages_left r =
    messages_of r.capacity r.slots.now r.tail (headers_between r.capacity r.words.now r.slots.now r.walk r.at r.tail)

abbrev pub placed : RecoveredMessage → PlacedMessage
placed m = record { place = m.place; message = record { type_id = m.type_id; body = m.body } }

-- the messages with their places
abbrev pub all_placed : List RecoveredMessage → List PlacedMessage
all_placed [] = []
all_placed (m ∷ ms) = placed m ∷ all_placed ms

-- r has the capacity and the tail of these words, and the committed messages and the number of open claims of their
-- headers
pub record Reads (C : ℕ) (words slots : List ℕ) (r : Recovered) : Type 0 where
  pub capacity : r.capacity ≡ C
  pub tail : r.tail ≡ tail_of C words
  pub messages : messages_left r ≡ messages_of C slots (tail_of C words) (all_headers C words slots)
  pub open_claims : r.open_claims ≡ open_of (all_headers C words slots)

-- the places of the claims are p or above
abbrev pub AreFrom : ℕ → List StagedClaim → Type 0
AreFrom p [] = ⊤
AreFrom p (c ∷ cs) = (p ≤ c.place) × AreFrom p cs

-- r was recovered from a ring with this history of all claims, whose consumer died when it knew this. The first
-- claims, `passed`, begin below the head, and the others, `left`, begin there or above. The messages of r are the
-- committed ones of `left`, each whole and once, with their places and in their order. All claims of `passed` were
-- settled. The messages that the consumer took are the committed ones of `passed`. What the consumer got are these, and
-- then `again`, with which r begins: the consumer was shown these messages, or was about to be, and had not stored a
-- head after them. `open_claims` is the number of claims of `left` that were not settled, and of which a header was
-- stored. r has no message of them
pub record IsRecoveredOf (hist : OwnedHistory) (consumer : ConsumerView) (r : Recovered) : Type 0 where
  pub passed : List StagedClaim
  pub left : List StagedClaim
  pub whole : all_of hist ≡ passed ++ left
  pub below : AreBelow consumer.head passed
  pub from : AreFrom consumer.head left
  pub messages : all_placed (messages_left r) ≡ placed_committed_of left
  pub settled : AreSettled passed
  pub taken : consumer.taken ≡ placed_committed_of passed
  pub again : List PlacedMessage
  pub got : consumer.got ≡ consumer.taken ++ again
  pub first : Begins again (all_placed (messages_left r))
  pub open_claims : r.open_claims ≡ unsettled_count left
