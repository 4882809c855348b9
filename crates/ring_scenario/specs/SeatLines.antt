-- The effects of lines of listeners and watchers, with the text that they print.
use Rattle.std.specs.Prelude.{◌≡◌, ◌↔◌, ◌<◌, ℕ, ℤ, List, codes, IfOk, IsOk, OnErr, Result}
use Rattle.ring_layout.specs.declared.share.NoShares.{NoShares}
use Rattle.ring_board.specs.{Refusals.subscribe_refusal_of, Refusals.IsSubscribedUnless, Seats.shares_of}
use Rattle.ring_board.specs.declared.fault.SubscribeFault.{SubscribeFault}
use Rattle.ring_counters.specs.{Manager.writes_of, Seats.values_count}
use Rattle.ring_counters.specs.declared.{fault.BadId.BadId, values.seats.ValueReader.ValueReader}
use Rattle.ring_service.specs.Conducting.{KeepsAllCounters, KeepsTheRest, manager_in, transmitter_of, value_shares_of}
use Rattle.ring_ends.specs.{Held.IsHeld, Held.held_in, Receivers.ReceivesAt, Receivers.Subscribes, Receivers.by_number}
use Rattle.ring_ends.specs.declared.received.Received.{Received}
use Rattle.ring_scenario.specs.Keeping.{KeepsButListeners, KeepsButWatchers}
use Rattle.ring_scenario.specs.RefusalTexts.{load_refused, shares_refused, subscribe_refused}
use Rattle.ring_scenario.specs.{ServiceTexts.value_text, Watchers.Peeks, Watchers.Unwatches, Watchers.Watches}
use Rattle.ring_scenario.specs.Texts.{answer_text, number_text, ok_text, received_text}
use Rattle.ring_scenario.specs.declared.service.CommandService.{CommandService}

-- a listener was made, or refused
pub record ListensLine (old new : CommandService) (text : List ℕ) : Type 0 where
  pub made : Result ℕ SubscribeFault
  pub refused : IsSubscribedUnless (subscribe_refusal_of (shares_of (transmitter_of old.conductor))) made
  pub listens : IfOk made (λ number. Subscribes (by_number (transmitter_of old.conductor) old.listeners) number
      (by_number (transmitter_of new.conductor) new.listeners))
  pub same : OnErr made ((new.conductor ≡ old.conductor) × (held_in new.listeners ≡ held_in old.listeners))
  pub others : KeepsTheRest old.conductor new.conductor
  pub rest : KeepsButListeners old new
  pub prints : text ≡ answer_text (number_text (codes "listener")) subscribe_refused made

-- the listener of this number was asked for the next reply
pub record HearsLine (number : ℕ) (old new : CommandService) (text : List ℕ) : Type 0 where
  pub received : Received
  pub receives : ReceivesAt received old.listeners number new.listeners
  pub conductor : new.conductor ≡ old.conductor
  pub rest : KeepsButListeners old new
  pub prints : text ≡ received_text received

-- a watcher was made, or refused
pub record WatchesLine (old new : CommandService) (text : List ℕ) : Type 0 where
  pub made : Result ℕ NoShares
  pub watches : IfOk made
      (λ number. Watches (writes_of (manager_in old.conductor)) old.watchers number new.watchers)
  pub enough : IsOk made ↔ (1 < value_shares_of old.conductor)
  pub same : OnErr made ((new.conductor ≡ old.conductor) × (held_in new.watchers ≡ held_in old.watchers))
  pub keeps : KeepsAllCounters new.values old.conductor new.conductor
  pub rest : KeepsButWatchers old new
  pub prints : text ≡ answer_text (number_text (codes "watcher")) shares_refused made

-- the watcher of this number, which was not joined, loaded the value of an id, or the id was refused
pub record PeeksLine (number id : ℕ) (old new : CommandService) (text : List ℕ) : Type 0 where
  pub watcher : ValueReader
  pub here : IsHeld (held_in old.watchers) number watcher
  pub loaded : Result ℤ BadId
  pub in_range : IsOk loaded ↔ (id < values_count old.values)
  pub value : IfOk loaded (λ value. Peeks id value old.watchers number new.watchers)
  pub same : OnErr loaded (held_in new.watchers ≡ held_in old.watchers)
  pub conductor : new.conductor ≡ old.conductor
  pub rest : KeepsButWatchers old new
  pub prints : text ≡ answer_text value_text load_refused loaded

-- the watcher of this number was joined
pub record UnwatchesLine (number : ℕ) (old new : CommandService) (text : List ℕ) : Type 0 where
  pub gone : Unwatches old.watchers number new.watchers
  pub keeps : KeepsAllCounters new.values old.conductor new.conductor
  pub rest : KeepsButWatchers old new
  pub prints : text ≡ ok_text
