-- The words of clauses for rings, producers and consumers.
use Rattle.std.specs.Prelude.{◌≡◌, ◌≢◌, ℕ, ◌+◌, ◌%◌, ◌≤◌, List, Bool, false}
use Rattle.ring_layout.specs.{History.IsMessage, Places.max_position}
pub use Rattle.ring_layout.specs.Refusals.{all_shares}
use Rattle.ring_words.specs.Open.{ClaimAt}
use Rattle.ring_table.specs.{Changes.blank, ProducerSteps.HasClaimAt, ProducerSteps.IsStagedOpen, OpenClaims.open_count}
use Rattle.ring_table.specs.declared.{claim.StagedClaim.StagedClaim, claim.PlacedMessage.PlacedMessage, view.View.View}
use Rattle.ring_table.specs.{Staged.AreRising, Views.with_run, Seats.IsSameSeat}
use Rattle.ring_rings.specs.{Reading.at_rest, declared.bodies.Bodies.Ghosts}
use Rattle.ring_rings.specs.declared.ring.{Ring.Ring, Producer.Producer, Consumer.Consumer}

abbrev pub capacity_of : {K B : Type 0} {G : Ghosts B} → Ring K B G → ℕ
capacity_of ring = ring.capacity

-- the position of the first claim
abbrev pub start_of : {K B : Type 0} {G : Ghosts B} → Ring K B G → ℕ
start_of {K} {B} {G} ring = ring.table.shared.key.start

-- Producers ------------------------------------------------------------------

-- the view of the producer
abbrev pub view_of : Producer → View
view_of p = p.seat.me.0

-- the producer's claims with their places, the oldest first
abbrev pub claims_of : Producer → List StagedClaim
claims_of p = p.seat.me.0.producer.claims

abbrev pub shares_of : Producer → ℕ
shares_of p = p.seat.me.0.producer.shares

-- the number of open claims of the producer
abbrev pub open_claims_of : Producer → ℕ
open_claims_of p = open_count p.seat.me.0.producer.claims

-- the greatest end of a claim that the producer has seen
abbrev pub seen_tail_of : Producer → ℕ
seen_tail_of p = p.seat.me.0.producer.seen_tail

pub record IsProducerOf {K B : Type 0} {G : Ghosts B} (ring : Ring K B G) (p : Producer) : Type 0 where
  pub table : p.seat.table_id ≡ ring.table.shared.table_id
  pub capacity : p.seat.me.0.capacity ≡ ring.capacity

-- if the ring is not for many producers, this producer holds all shares
abbrev pub MayClaim : Bool → Producer → Type 0
MayClaim many p = many ≡ false → shares_of p ≡ all_shares

-- The consumer ---------------------------------------------------------------

-- the view of the consumer's seat
abbrev pub seat_view : Consumer → View
seat_view c = c.seat.me.0

-- where the run begins that the running read of a consumer is in
abbrev pub run_of : Consumer → ℕ
run_of c = c.seat.me.0.consumer.run.from

-- the view with the run of this consumer
abbrev pub in_run : Consumer → View → View
in_run c v = with_run c.seat.me.0.consumer.run v

-- The view of the consumer between two calls. It is the view of the seat, without what a running read has found.
abbrev pub consumer_view : Consumer → View
consumer_view c = at_rest (seat_view c)

-- the messages that the consumer took, with their places
abbrev pub taken_of : Consumer → List PlacedMessage
taken_of c = c.seat.me.0.consumer.taken

abbrev pub head_of : Consumer → ℕ
head_of c = c.seat.me.0.consumer.head

pub record IsConsumerOf {K B : Type 0} {G : Ghosts B} (ring : Ring K B G) (c : Consumer) : Type 0 where
  pub table : c.seat.table_id ≡ ring.table.shared.table_id
  pub capacity : c.seat.me.0.capacity ≡ ring.capacity

-- the same consumer, of the same ring
abbrev pub IsSameConsumer : Consumer → Consumer → Type 0
IsSameConsumer old new = IsSameSeat old.seat new.seat

-- Claims -----------------------------------------------------------------------

-- the claim that a producer holds is one of its own, and is open
pub record IsOpenAt (C : ℕ) (v : View) (t : ClaimAt) : Type 0 where
  pub index : t.index ≡ t.place % C + 8
  pub message : IsMessage C (blank t.type_id t.len)
  pub limit : t.place ≤ max_position
  pub claim : HasClaimAt v t.place (IsStagedOpen t.type_id t.len)

abbrev pub IsOpenClaimOf : {K B : Type 0} {G : Ghosts B} → Ring K B G → Producer → ClaimAt → Type 0
IsOpenClaimOf ring p t = IsOpenAt (capacity_of ring) (view_of p) t

-- claims that were open stay open
abbrev pub KeepsOpen : ℕ → View → View → Type 0
KeepsOpen C v w = (t : ClaimAt) → IsOpenAt C v t → IsOpenAt C w t

abbrev pub KeepsClaims : {K B : Type 0} {G : Ghosts B} → Ring K B G → Producer → Producer → Type 0
KeepsClaims ring old new = KeepsOpen (capacity_of ring) (view_of old) (view_of new)

-- a producer keeps its open claims and its shares
pub record KeepsHeld (C : ℕ) (v w : View) : Type 0 where
  pub claims : KeepsOpen C v w
  pub shares : w.producer.shares ≡ v.producer.shares

abbrev pub KeepsHoldings : {K B : Type 0} {G : Ghosts B} → Ring K B G → Producer → Producer → Type 0
KeepsHoldings ring old new = KeepsHeld (capacity_of ring) (view_of old) (view_of new)

-- a producer keeps its open claims and its shares, and no further claim is open
pub record OpensNoneAt (C : ℕ) (v w : View) : Type 0 where
  pub holdings : KeepsHeld C v w
  pub open_claims : open_count w.producer.claims ≡ open_count v.producer.claims

abbrev pub OpensNone : {K B : Type 0} {G : Ghosts B} → Ring K B G → Producer → Producer → Type 0
OpensNone ring old new = OpensNoneAt (capacity_of ring) (view_of old) (view_of new)

-- The claims are at different places. Claims that were open stay open, except the one at this place.
pub record KeepsAllBut (C place : ℕ) (v w : View) : Type 0 where
  pub rising : AreRising v.producer.claims
  pub claims : (t : ClaimAt) → IsOpenAt C v t → t.place ≢ place → IsOpenAt C w t

abbrev pub KeepsOthers : {K B : Type 0} {G : Ghosts B} → Ring K B G → ℕ → Producer → Producer → Type 0
KeepsOthers ring place old new = KeepsAllBut (capacity_of ring) place (view_of old) (view_of new)

-- no open claim of the producer is at the place of this claim
abbrev pub LiesApartAt : ℕ → View → ClaimAt → Type 0
LiesApartAt C v new = (t : ClaimAt) → IsOpenAt C v t → t.place ≢ new.place

-- a claim that was opened is at another place than the claims that were open before
pub record OpensAt (C : ℕ) (v w : View) (t : ClaimAt) : Type 0 where
  pub is_open : IsOpenAt C w t
  pub apart : LiesApartAt C v t

abbrev pub IsNewClaimOf : {K B : Type 0} {G : Ghosts B} → Ring K B G → Producer → Producer → ClaimAt → Type 0
IsNewClaimOf ring old new t = OpensAt (capacity_of ring) (view_of old) (view_of new) t

-- claims that were open in one of two producers are open in the joined producer, at different places
pub record KeepsBothOpen (C : ℕ) (v w joined : View) : Type 0 where
  pub first : KeepsOpen C v joined
  pub second : KeepsOpen C w joined
  pub apart : (t u : ClaimAt) → IsOpenAt C v t → IsOpenAt C w u → t.place ≢ u.place

abbrev pub KeepsBoth : {K B : Type 0} {G : Ghosts B} → Ring K B G → Producer → Producer → Producer → Type 0
KeepsBoth ring p q joined = KeepsBothOpen (capacity_of ring) (view_of p) (view_of q) (view_of joined)
