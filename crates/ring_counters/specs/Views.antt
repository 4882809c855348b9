-- The view of a seat of the values.
use Rattle.std.specs.Prelude.{ℕ, ℤ, Bool, List}
use Rattle.ring_counters.specs.declared.values.view.{ValueWrite.ValueWrite, ValueLoad.ValueLoad, ValuesView.ValuesView}

abbrev pub value_write : ℕ → ℤ → ValueWrite
value_write id value = record { id = id; value = value }

abbrev pub value_load : ℕ → ℤ → List ValueWrite → ValueLoad
value_load id value after = record { id = id; value = value; after = after }

abbrev pub values_view : Bool → ℕ → List ValueWrite → List ValueWrite → List ValueLoad → ValuesView
values_view writes shares seen made loads =
    record { writes = writes; shares = shares; seen = seen; made = made; loads = loads }
