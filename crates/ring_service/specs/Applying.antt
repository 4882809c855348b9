-- The effect of a call on the counters.
use Rattle.std.specs.Prelude.{◌≡◌, ℕ, ◌++◌}
use Rattle.ring_counters.specs.declared.manager.CountersManager.{CountersManager}
use Rattle.ring_counters.specs.Manager.{registry_of, writes_of, shares_of, table_of}
use Rattle.ring_protocol.specs.declared.reply.Reply.{Reply}
use Rattle.ring_counters.specs.Registry.{Registry, allocation_of, new_counter}
use Rattle.ring_service.specs.{declared.conductor.working.Wanted.Wanted, Applied.Outcome, Applied.allocated}

-- the effect of a command that asks for a counter
abbrev pub allocates : Registry → ℕ → ℕ → Wanted → Outcome
allocates r now correlation w =
    allocated r correlation (new_counter w.type_id w.key.now w.label.now correlation w.owner)
    (allocation_of r now w.key.now w.label.now)

-- The counters, their value writes and the reply are those of the outcome. All other parts are unchanged.
pub record Applies (o : Outcome) (old new : CountersManager) (reply : Reply) : Type 0 where
  pub registry : registry_of new ≡ o.registry
  pub writes : writes_of new ≡ writes_of old ++ o.writes
  pub answer : reply ≡ o.reply
  pub shares : shares_of new ≡ shares_of old
  pub values : table_of new ≡ table_of old
