-- The words of clauses for a manager.
use Rattle.std.specs.Prelude.{◌≡◌, ℕ, ℤ, List, [], ◌∷◌, ◌++◌, Option}
use Rattle.atomic_table.specs.Seated.{TableId}
use Rattle.ring_counters.specs.declared.values.{view.ValueWrite.ValueWrite, seats.CounterValues.CounterValues}
use Rattle.ring_counters.specs.declared.{manager.CountersManager.CountersManager, fault.IdFault.IdFault}
use Rattle.ring_counters.specs.{Counter.Counter, Views.value_write}
use Rattle.ring_counters.specs.Registry.{Registry, counter_at, id_refusal_of, range_refusal_of, with_value}

-- the counters of a manager
abbrev pub registry_of : CountersManager → Registry
registry_of m = m.records

-- the counter with this id
abbrev pub counter_in : CountersManager → ℕ → Counter
counter_in m id = counter_at (registry_of m) id

-- the reason why a call on the counter with this id is refused
abbrev pub refusal_at : CountersManager → ℕ → Option IdFault
refusal_at m id = id_refusal_of (registry_of m) id

-- the reason why a call on the record with this id is refused
abbrev pub range_refusal_at : CountersManager → ℕ → Option IdFault
range_refusal_at m id = range_refusal_of (registry_of m) id

-- the list of the manager's value writes
abbrev pub writes_of : CountersManager → List ValueWrite
writes_of m = m.writer.seat.me.0.seen

-- the number of shares that are not with readers
abbrev pub shares_of : CountersManager → ℕ
shares_of m = m.writer.shares

-- the table of values that the manager writes
abbrev pub table_of : CountersManager → TableId
table_of m = m.writer.seat.table_id

-- these values are the manager's
abbrev pub IsManagerOf : CounterValues → CountersManager → Type 0
IsManagerOf values m = table_of m ≡ values.table.shared.table_id

-- No value was written, and the shares are as before. The manager is still that of the same values.
pub record KeepsValues (old new : CountersManager) : Type 0 where
  pub same_writes : writes_of new ≡ writes_of old
  pub same_shares : shares_of new ≡ shares_of old
  pub same_values : table_of new ≡ table_of old

-- The manager is that of these values. The counters and the writes are as before.
pub record KeepsCounters (values : CounterValues) (old new : CountersManager) : Type 0 where
  pub manager : IsManagerOf values new
  pub registry : registry_of new ≡ registry_of old
  pub writes : writes_of new ≡ writes_of old

-- The counter with this id has this value, which was written once. No other counter changed.
pub record SetsValue (id : ℕ) (value : ℤ) (old new : CountersManager) : Type 0 where
  pub registry : registry_of new ≡ with_value (registry_of old) id value
  pub writes : writes_of new ≡ writes_of old ++ value_write id value ∷ []
