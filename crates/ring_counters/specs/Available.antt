-- The number of ids that allocations can give, and the test of whether a value is the expected one.
use Rattle.std.specs.Prelude.{ℕ, ◌+◌, Bool, ℤ, count_by}
use Rattle.std.specs.Ordering.{int_eq}
use Rattle.ring_counters.specs.Registry.{Registry, is_due, is_unused, status_at, value_at}

-- the number of freed ids that are due
abbrev pub due_count : Registry → ℕ → ℕ
due_count r now = count_by (λ id. is_due now (status_at r id)) r.freed

-- the number of ids that were never used
abbrev pub unused_count : Registry → ℕ
unused_count r = count_by (λ c. is_unused c.metadata.status) r.counters

-- the number of ids that allocations at this moment can give, one after another
abbrev pub available_in : Registry → ℕ → ℕ
available_in r now = due_count r now + unused_count r

-- whether a counter's value is this one
abbrev pub has_value : Registry → ℕ → ℤ → Bool
has_value r id value = int_eq (value_at r id) value
