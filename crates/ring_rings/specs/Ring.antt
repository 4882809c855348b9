-- A ring in a caller's words: the messages that a producer sent, that a consumer received, and that are unread.
use Rattle.std.specs.Prelude.{◌≡◌, ◌⊎◌, ℕ, ℤ, List, [], ◌∷◌, ◌++◌, length}
use Rattle.ring_layout.specs.{declared.message.Claim.Claim, declared.message.Message.Message, History.committed_of}
use Rattle.ring_layout.specs.Handles.{Handles}
use Rattle.ring_words.specs.{declared.read.action.Action.Action, Ring.Ring as ClosedRing, Ring.Has}
use Rattle.ring_table.specs.{declared.view.View.View, Passing.placed_committed_of, ProducerSteps.HasClaimAt}
use Rattle.ring_rings.specs.declared.ring.{Consumer.Consumer, Producer.Producer}
use Rattle.ring_rings.specs.{Reading.IsNext, Reading.messages_of, Seats.consumer_view, Seats.view_of}

abbrev pub message : ℤ → List ℕ → Message
message type_id body = record { type_id = type_id; body = body }

-- the messages that the producer with this view committed
abbrev pub sent_in : View → List Message
sent_in v = messages_of (placed_committed_of v.producer.claims)

-- the messages that the consumer with this view took
abbrev pub received_in : View → List Message
received_in v = messages_of v.consumer.taken

-- the messages that a producer committed, in the order of their claims, which is the order of the moves of the tail
abbrev pub sent : Producer → List Message
sent p = sent_in (view_of p)

-- the messages that a consumer received, the oldest first
abbrev pub received : Consumer → List Message
received c = received_in (consumer_view c)

-- the messages that a closed ring still has, which are those committed in each history that it has
abbrev pub IsUnread : ClosedRing → List Message → Type 0
IsUnread rest unread = (h : List Claim) → Has rest h → committed_of h ≡ unread

-- what was received, followed by what is unread, is what was sent, each message whole and once
pub record IsWhole (sent received : List Message) (rest : ClosedRing) : Type 0 where
  pub unread : List Message
  pub left : IsUnread rest unread
  pub all : received ++ unread ≡ sent

-- the claim at this place of the producer with this view has this message
abbrev pub HasMessageAt : View → ℕ → Message → Type 0
HasMessageAt v place m = HasClaimAt v place (λ c. c.message ≡ m)

abbrev pub HasMessage : Producer → ℕ → Message → Type 0
HasMessage p place m = HasMessageAt (view_of p) place m

-- The message of the claim at this place was sent. In the list it is after those of earlier claims, and before those of
-- later claims.
pub record SendsClaimedAt (place : ℕ) (v w : View) : Type 0 where
  pub message : Message
  pub claimed : HasMessageAt v place message
  pub before : List Message
  pub after : List Message
  pub was : sent_in v ≡ before ++ after
  pub is : sent_in w ≡ before ++ message ∷ after

abbrev pub SendsClaimed : ℕ → Producer → Producer → Type 0
SendsClaimed place old new = SendsClaimedAt place (view_of old) (view_of new)

-- zs is xs and ys merged, with the elements of each in their order
abbrev pub AreMerged : {A : Type 0} → List A → List A → List A → Type 0
AreMerged xs ys [] = (xs ≡ []) × (ys ≡ [])
AreMerged {A} xs ys (z ∷ zs) = ((rest : List A) × (xs ≡ z ∷ rest) × AreMerged rest ys zs)
    ⊎ ((rest : List A) × (ys ≡ z ∷ rest) × AreMerged xs rest zs)

-- this many messages were received, and the handler was shown them
pub record ReceivesIn {S : Type 0} (step : S → Message → S → Action → Type 0) (v w : View) (s t : S) (count : ℕ)
    : Type 0 where
  pub messages : List Message
  pub actions : List Action
  pub handled : Handles step s messages actions t
  pub counted : count ≡ length messages
  pub more : received_in w ≡ received_in v ++ messages

abbrev pub Receives : {S : Type 0} → (S → Message → S → Action → Type 0) → Consumer → Consumer → S → S → ℕ → Type 0
Receives step old new s t count = ReceivesIn step (consumer_view old) (consumer_view new) s t count

-- This many messages were received. The handler was shown one more message, at which it stopped the read by Abort. This
-- is the next message of the ring, and it was left in the ring.
pub record LeavesIn {S : Type 0} (step : S → Message → S → Action → Type 0) (v w : View) (s t : S) (count : ℕ)
    : Type 0 where
  pub between : S
  pub message : Message
  pub receives : ReceivesIn step v w s between count
  pub next : IsNext v w message
  pub aborted : step between message t Action.Abort

abbrev pub Leaves : {S : Type 0} → (S → Message → S → Action → Type 0) → Consumer → Consumer → S → S → ℕ → Type 0
Leaves step old new s t count = LeavesIn step (consumer_view old) (consumer_view new) s t count
