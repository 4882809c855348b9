-- The parts that a run hands out at its end.
use Rattle.std.specs.Prelude.{◌≡◌, ℕ, ◌-◌, ◌^◌, List, ◌++◌, length, min}
use Rattle.ring_layout.specs.Refusals.{all_shares}
use Rattle.ring_table.specs.declared.claim.{PlacedMessage.PlacedMessage, StagedClaim.StagedClaim}
use Rattle.ring_table.specs.Passing.{placed_committed_of}
use Rattle.ring_rings.specs.{Closing.AreOrdered, Seats.capacity_of, Seats.claims_of, Seats.start_of}
use Rattle.ring_ends.specs.Claiming.{aborted_view}
use Rattle.ring_counters.specs.Manager.{registry_of, shares_of}
use Rattle.ring_service.specs.Conducting.{manager_in, received_of}
use Rattle.ring_scenario.specs.declared.ring.RunRing.{RunRing}
use Rattle.ring_scenario.specs.declared.service.{CommandService.CommandService, closing.Served.Served}

-- the number of messages that the reads of a ring took, within 64 bits
abbrev pub read_count : RunRing → ℕ
read_count r = min (length r.consumer.view.consumer.taken) (2 ^ 64 - 1)

-- The claims come one after another from the ring's start on, in the order of the tail exchanges. Their committed
-- messages, with their places, are the messages that were taken, followed by the messages that are left. This many
-- messages are left.
pub record TakesAllBut (C start : ℕ) (claims : List StagedClaim) (taken : List PlacedMessage) (count : ℕ)
    : Type 0 where
  pub ordered : AreOrdered C start claims
  pub left : List PlacedMessage
  pub whole : placed_committed_of claims ≡ taken ++ left
  pub counted : count ≡ length left

-- the ring of a run took all messages except this many, after its open claims were aborted
abbrev pub LeavesMessages : RunRing → ℕ → Type 0
LeavesMessages r count = TakesAllBut r.producer.end.capacity 0
    (aborted_view r.producer.claims r.producer.end.view).producer.claims r.consumer.view.consumer.taken count

-- The number of commands that the conductor took. They are all messages that were committed to its ring, except those
-- that it left. Its counters have all shares of the values.
pub record TookAndLeft (service : CommandService) (served : Served) : Type 0 where
  pub received : served.received ≡ length (received_of service.conductor)
  pub left : TakesAllBut (capacity_of service.ring) (start_of service.ring) (claims_of service.producer)
      (received_of service.conductor) served.left
  pub counters : registry_of served.counters ≡ registry_of (manager_in service.conductor)
  pub watchers : shares_of served.counters ≡ all_shares
