-- The making of a run.
use Rattle.std.specs.Prelude.{◌≡◌, ℕ, [], false}
use Rattle.ring_rings.specs.Opening.{first_consumer, first_producer}
use Rattle.ring_rings.specs.Seats.{capacity_of, view_of as producer_view}
use Rattle.ring_board.specs.{Rule.opening_view, Seats.capacity_of as board_capacity_of, Seats.view_of}
use Rattle.ring_layout.specs.Refusals.{all_shares}
use Rattle.ring_counters.specs.{Manager.registry_of, Manager.writes_of, Registry.fresh_registry, Seats.values_count}
use Rattle.ring_service.specs.Conducting.{board_view, manager_in, ring_view, value_shares_of}
use Rattle.ring_ends.specs.Held.{held_in}
use Rattle.ring_scenario.specs.declared.{ring.RunRing.RunRing, runner.Runner.Runner}
use Rattle.ring_scenario.specs.declared.{options.Options.Options, service.CommandService.CommandService}

-- The command ring, the broadcast buffer of its replies, and the counters with their values are new ones that the
-- options describe. No id was drawn, and no command was sent or taken. No reply was transmitted, and no value was
-- written. There is no listener and no watcher.
pub record ServesBy (options : Options) (s : CommandService) : Type 0 where
  pub ring : capacity_of s.ring ≡ options.commands
  pub board : board_capacity_of s.board ≡ options.replies
  pub counters : registry_of (manager_in s.conductor) ≡ fresh_registry options.counters options.reuse_ms
  pub values : values_count s.values ≡ options.counters
  pub writes : writes_of (manager_in s.conductor) ≡ []
  pub shares : value_shares_of s.conductor ≡ all_shares
  pub producer : producer_view s.producer ≡ first_producer options.commands 0
  pub consumer : ring_view s.conductor ≡ first_consumer options.commands 0
  pub transmitter : board_view s.conductor ≡ opening_view options.replies 0
  pub listeners : held_in s.listeners ≡ []
  pub watchers : held_in s.watchers ≡ []

-- The ring is a new one of this capacity. Nothing was written, claimed or read.
pub record IsFresh (C : ℕ) (r : RunRing) : Type 0 where
  pub capacity : r.producer.end.capacity ≡ C
  pub producer : r.producer.end.view ≡ first_producer C 0
  pub claims : r.producer.claims ≡ []
  pub consumer : r.consumer.view ≡ first_consumer C 0
  pub places : held_in r.places ≡ []

-- Each part is a new one that the options describe. No line used the conductor's side.
pub record RunsBy (options : Options) (r : Runner) : Type 0 where
  pub ring : IsFresh options.ring r.ring
  pub board : board_capacity_of r.board.board ≡ options.board
  pub transmitter : view_of r.board.transmitter ≡ opening_view options.board 0
  pub receivers : held_in r.board.receivers ≡ []
  pub commands : r.commands ≡ options.commands
  pub service : ServesBy options r.service
  pub serves : r.serves ≡ false
