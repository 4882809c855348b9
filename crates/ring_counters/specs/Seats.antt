-- The seats of the values.
use Rattle.std.specs.Prelude.{◌≡◌, ℕ, ℤ, List, [], ◌∷◌, ◌++◌}
use Rattle.ring_counters.specs.declared.values.view.{ValueWrite.ValueWrite, ValueLoad.ValueLoad}
use Rattle.ring_counters.specs.declared.values.seats.{CounterValues.CounterValues, ValueReader.ValueReader}
use Rattle.ring_counters.specs.{declared.values.seats.ValueWriter.ValueWriter, ValueWrites.value_after}
use Rattle.ring_layout.specs.Lists.{Begins}
use Rattle.ring_counters.specs.Views.{value_load}

abbrev pub IsWriterOf : CounterValues → ValueWriter → Type 0
IsWriterOf values writer = writer.seat.table_id ≡ values.table.shared.table_id

-- the reader is one of these values
abbrev pub IsReaderOf : CounterValues → ValueReader → Type 0
IsReaderOf values reader = reader.seat.table_id ≡ values.table.shared.table_id

-- the number of ids
abbrev pub values_count : CounterValues → ℕ
values_count values = values.table.shared.key

-- the writer's list of value writes
abbrev pub writer_writes : ValueWriter → List ValueWrite
writer_writes writer = writer.seat.me.0.seen

-- the writes that there were when the reader was made
abbrev pub made_of : ValueReader → List ValueWrite
made_of reader = reader.seat.me.0.made

-- the writes that the reader has seen
abbrev pub seen_by : ValueReader → List ValueWrite
seen_by reader = reader.seat.me.0.seen

-- the loads of the reader, in order
abbrev pub loads_of : ValueReader → List ValueLoad
loads_of reader = reader.seat.me.0.loads

-- The reader is one of these values. It was made after these writes and has seen them, and it has loaded nothing.
pub record IsNewReaderOf (values : CounterValues) (writes : List ValueWrite) (r : ValueReader) : Type 0 where
  pub reader : IsReaderOf values r
  pub made : made_of r ≡ writes
  pub seen : seen_by r ≡ writes
  pub loads : loads_of r ≡ []

-- The value is the id's value after the writes that the reader has now seen. It is one more load. These writes include
-- all that the reader had seen.
pub record LoadsValue (id : ℕ) (value : ℤ) (old new : ValueReader) : Type 0 where
  pub value_is : value ≡ value_after id (seen_by new)
  pub loaded : loads_of new ≡ loads_of old ++ value_load id value (seen_by new) ∷ []
  pub later : Begins (seen_by old) (seen_by new)
