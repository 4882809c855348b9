-- The values of a registry are those after the value writes.
use Rattle.std.specs.Prelude.{◌≡◌, ℕ, List}
use Rattle.ring_counters.specs.{declared.values.view.ValueWrite.ValueWrite, Registry.Registry, Registry.counter_at}
use Rattle.ring_counters.specs.ValueWrites.{value_after}

abbrev pub Agree : Registry → List ValueWrite → Type 0
Agree r writes = (id : ℕ) → (counter_at r id).values.value ≡ value_after id writes
