-- How a ring that is no conductor's ends: r is the consumer before, s after, p is a producer, and the code is what is
-- returned.
use Rattle.std.specs.Prelude.{◌≡◌, ◌≢◌, ◌⊎◌, ℕ, ℤ, List, ◌++◌, length, MatchOption, None, Some, IsSome}
use Rattle.ring_layout.specs.declared.message.Message.{Message}
use Rattle.ring_table.specs.{OpenClaims.open_count, Views.with_consumer_of}
use Rattle.ring_table.specs.{Owners.OwnedHistory, Owners.all_of, Owners.owned_by, Passing.placed_committed_of}
use Rattle.ring_table.specs.declared.{claim.PlacedMessage.PlacedMessage, claim.StagedClaim.StagedClaim, view.View.View}
use Rattle.ring_rings.specs.{Closing.close_code, Closing.AreOrdered, Reading.messages_of}
use Rattle.ring_handles.specs.Side.{Reading, Side, close_refusal}
use Rattle.ring_layout.specs.declared.refusal_codes.TheConstants.{PRODUCERS_OUT}
use Rattle.ring_handles.specs.declared.code.TheConstants.{IN_USE, OTHER_RING}

-- Closing ------------------------------------------------------------------------

-- The producer of the same number was taken in, which has no open claim. No clause can count handles: that no other
-- producer is in a handle is tested if this one does not have all shares
pub record TakesLast (r : Reading) (p : Side) (s : Reading) : Type 0 where
  pub kind : r.end.many ≡ p.many
  pub identity : r.identity ≡ p.identity
  pub ready : open_count p.view.producer.claims ≡ 0
  pub first : r.last ≡ None
  pub rest : s ≡ record r { last = Some p.view }

-- why it was not: the consumer has its ring's producer already, or the kinds or the numbers differ; otherwise it is the
-- library's refusal
abbrev pub IsNotLast : Reading → Side → ℤ → Type 0
IsNotLast r p code = ((code ≡ OTHER_RING) × (IsSome r.last ⊎ ((r.end.many ≢ p.many) ⊎ (r.identity ≢ p.identity))))
    ⊎ ((r.last ≡ None) × (r.end.many ≡ p.many) × (r.identity ≡ p.identity)
    × MatchOption (close_refusal p.view) ⊥ (λ fault. code ≡ close_code fault))

-- Finishing ----------------------------------------------------------------------

-- These claims are one after the other from the start on. What was received, followed by what was left, is their
-- committed messages, each whole and once
pub record LeavesUnread (capacity start : ℕ) (claims : List StagedClaim) (taken : List PlacedMessage)
    (left : ℕ) : Type 0 where
  pub ordered : AreOrdered capacity start claims
  pub rest : List Message
  pub left_is : left ≡ length rest
  pub whole : messages_of taken ++ rest ≡ messages_of (placed_committed_of claims)

-- There is one history of all claims, those of lost producers among them, of which v's own claims are a part, and with
-- which nothing is left unread but what was committed
pub record LeavesCommitted (capacity start : ℕ) (v : View) (left : ℕ) : Type 0 where
  pub hist : OwnedHistory
  pub id : ℕ
  pub own : v.producer.claims ≡ owned_by id hist
  pub unread : LeavesUnread capacity start (all_of hist) v.consumer.taken left

-- The claims are those of the producer that was taken in, if it has all shares. Otherwise producers are lost, and its
-- claims, if there is one, are its part of a history
abbrev pub Finishes : Reading → ℕ → Type 0
Finishes r left = MatchOption r.last (LeavesCommitted r.end.capacity r.end.start r.end.view left)
    (λ v. MatchOption (close_refusal v)
    (LeavesUnread r.end.capacity r.end.start v.producer.claims r.end.view.consumer.taken left)
    (λ _. LeavesCommitted r.end.capacity r.end.start (with_consumer_of v r.end.view) left))

-- another handle holds the ring: that of a producer, if none was taken in
abbrev pub IsUnfinished : Reading → ℤ → Type 0
IsUnfinished r code = MatchOption r.last (code ≡ PRODUCERS_OUT) (λ _. code ≡ IN_USE)
