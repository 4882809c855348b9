-- The parts that a closed ring hands out.
use Rattle.std.specs.Prelude.{◌≡◌, ℕ, ◌-◌, ◌%◌, ◌^◌, ◌≤◌, ℤ, pos, List, ◌∷◌, ◌++◌, length, slice_index}
use Rattle.std.specs.Prelude.{Option, Some, None, if◌then◌else◌, nat_lt, ◌==◌}
use mathlib.Core.Option.{some}
use lib.ListN.{get_elem?}
use Rattle.ring_layout.specs.Layout.{correlation_index, heartbeat_index, head_cache_index, IsUnnamed}
pub use Rattle.ring_layout.specs.Refusals.{IsRefusedAs}
use Rattle.ring_layout.specs.Refusals.{all_shares}
use Rattle.ring_words.specs.Ring.{Ring, Has, head_of}
use Rattle.ring_table.specs.{declared.claim.StagedClaim.StagedClaim, declared.view.View.View, Closed.restarted}
use Rattle.ring_table.specs.Staged.{AreRising, ArePlaced, unplaced}
use Rattle.ring_table.specs.Passing.{AreSettled, placed_committed_of}
use Rattle.ring_table.specs.Services.{times_drawn, once_below, AreServed}
use Rattle.ring_rings.specs.declared.fault.CloseFault.{CloseFault, TheVariants.ClaimsOpen, TheVariants.ProducersOut}
use Rattle.ring_rings.specs.declared.ring.{CloseRefused.CloseRefused, Producer.Producer, Consumer.Consumer}

-- the reason why a producer with this many open claims and shares does not close a ring, in the order of the tests
abbrev pub close_refusal_of : ℕ → ℕ → Option CloseFault
close_refusal_of open_claims shares =
    if nat_lt 0 open_claims then Some (ClaimsOpen open_claims)
    else (if shares == all_shares then None
    else Some (ProducersOut (all_shares - shares)))

-- the number of the reason why a ring is not closed
abbrev pub close_code : CloseFault → ℤ
close_code (ClaimsOpen _) = pos 10
close_code (ProducersOut _) = pos 11

-- the ring, the producer and the consumer come back with the reason
abbrev pub kept_open : {R : Type 0} → R → Producer → Consumer → CloseFault → CloseRefused R
kept_open ring producer consumer reason =
    record { reason = reason; ring = ring; producer = producer; consumer = consumer }

-- claims are one after the other from the start on, so that their places rise and none occurs twice
pub record AreOrdered (C start : ℕ) (cs : List StagedClaim) : Type 0 where
  pub placed : ArePlaced C start cs
  pub rising : AreRising cs

-- The producer p has all claims of the ring, which are one after the other from its start on, and r was its consumer.
-- The first claims are settled. The messages that r took are the committed ones among them, with their places. The
-- other claims are a history of the ring that is left, at the same places.
pub record HandsOut (C start : ℕ) (p r : View) (rest : Ring) : Type 0 where
  pub ordered : AreOrdered C start p.producer.claims
  pub passed : List StagedClaim
  pub left : List StagedClaim
  pub whole : p.producer.claims ≡ passed ++ left
  pub settled : AreSettled passed
  pub messages : r.consumer.taken ≡ placed_committed_of passed
  pub placed : ArePlaced C r.consumer.head (restarted r.consumer.head left)
  pub capacity : rest.capacity ≡ C
  pub head : head_of rest ≡ r.consumer.head
  pub has : Has rest (unplaced left)

-- The numbers below some number were drawn, each once. Each producer's heartbeats are among those that were stored. The
-- words of both services follow from this. The trailer's words without a name are 0.
pub record Serves (C : ℕ) (p r : View) (rest : Ring) : Type 0 where
  pub drawn : ℕ
  pub once : (x : ℕ) → times_drawn x p.producer ≡ once_below x drawn
  pub served : AreServed drawn r.consumer.heartbeats (p.producer.service ∷ p.producer.joined)
  pub correlation : slice_index rest.words (correlation_index C) ≡ drawn % 2 ^ 64
  pub heartbeat : get_elem? (0 ∷ r.consumer.heartbeats) (length r.consumer.heartbeats)
      ≡ some (slice_index rest.words (heartbeat_index C))
  pub cache : slice_index rest.words (head_cache_index C) ≤ r.consumer.head
  pub unnamed : (i : ℕ) → IsUnnamed C i → slice_index rest.words i ≡ 0
