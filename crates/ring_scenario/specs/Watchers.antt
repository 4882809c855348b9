-- Numbered readers of counter values.
use Rattle.std.specs.Prelude.{◌≡◌, ℕ, ℤ, List, []}
use Rattle.ring_counters.specs.declared.values.seats.{CounterValues.CounterValues, ValueReader.ValueReader}
use Rattle.ring_counters.specs.declared.{values.view.ValueWrite.ValueWrite, manager.CountersManager.CountersManager}
use Rattle.ring_counters.specs.{Manager.IsManagerOf, Seats.IsReaderOf, Seats.LoadsValue, Seats.loads_of, Seats.seen_by}
use Rattle.ring_ends.specs.Held.{Comes, Goes, HasAt, Stays, held_in}
use Rattle.ring_ends.specs.declared.numbered.Numbered.{Numbered}

-- the readers are of these values
abbrev pub AreWatchers : CounterValues → Numbered ValueReader → Type 0
AreWatchers values watchers = (i : ℕ) (r : ValueReader) → HasAt (held_in watchers) i r → IsReaderOf values r

-- the manager and the readers are of these values
pub record AreWatchedBy (values : CounterValues) (m : CountersManager) (readers : Numbered ValueReader) : Type 0 where
  pub manager : IsManagerOf values m
  pub watchers : AreWatchers values readers

-- a reader was made after these writes, and has the next number
pub record Watches (writes : List ValueWrite) (old : Numbered ValueReader) (next : ℕ) (new : Numbered ValueReader)
    : Type 0 where
  pub reader : ValueReader
  pub knows : seen_by reader ≡ writes
  pub unread : loads_of reader ≡ []
  pub comes : Comes reader (held_in old) next (held_in new)

-- The reader of this number loaded this value of an id once. It is the value after writes that include all that the
-- reader had seen. No other reader changed.
pub record Peeks (id : ℕ) (value : ℤ) (old : Numbered ValueReader) (number : ℕ)
    (new : Numbered ValueReader) : Type 0 where
  pub before : ValueReader
  pub after : ValueReader
  pub loads : LoadsValue id value before after
  pub stays : Stays before after (held_in old) number (held_in new)

-- the number of a reader is given up
pub record Unwatches (old : Numbered ValueReader) (number : ℕ) (new : Numbered ValueReader) : Type 0 where
  pub reader : ValueReader
  pub goes : Goes reader (held_in old) number (held_in new)
