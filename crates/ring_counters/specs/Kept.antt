-- The form in which a registry is kept in two lists of records.
use Rattle.std.specs.Prelude.{◌≡◌, ◌≢◌, ℕ, ◌-◌, ◌<◌, ◌≤◌, Bool, true, false, List, [], ◌∷◌, map, count_by, length, slice_index, slice_index_or}
use Rattle.ring_counters.specs.Counter.{Metadata, Values, Counter, unused_counter, unused_metadata, deadline_of}
use Rattle.ring_counters.specs.Registry.{Registry, count_of, counter_at, status_at, is_unused, is_allocated, is_reclaimed}

-- the counters of these records
abbrev pub counters_of : List Metadata → List Values → List Counter
counters_of [] vs = []
counters_of (m ∷ ms) [] = []
counters_of (m ∷ ms) (v ∷ vs) = record { metadata = m; values = v } ∷ counters_of ms vs

-- the registry of these records
abbrev pub registry_in : List Metadata → List Values → List ℕ → ℕ → Registry
registry_in ms vs freed reuse_ms = record { counters = counters_of ms vs; freed = freed; reuse_ms = reuse_ms }

-- whether each counter is in use
abbrev pub live_flags : List Metadata → List Bool
live_flags ms = map (λ m. is_allocated m.status) ms

abbrev pub IsAbsent : ℕ → List ℕ → Type 0
IsAbsent id [] = Unit {0}
IsAbsent id (x ∷ xs) = (x ≢ id) × IsAbsent id xs

abbrev pub AreDistinct : List ℕ → Type 0
AreDistinct [] = Unit {0}
AreDistinct (x ∷ xs) = IsAbsent x xs × AreDistinct xs

abbrev pub AreReclaimed : List Counter → List ℕ → Type 0
AreReclaimed counters [] = Unit {0}
AreReclaimed counters (id ∷ ids) =
    (is_reclaimed (slice_index_or counters id unused_counter).metadata.status ≡ true) × AreReclaimed counters ids

abbrev pub deadline_at : List Counter → ℕ → ℕ
deadline_at counters id = deadline_of (slice_index_or counters id unused_counter).metadata.status

-- the deadline of the last id in the queue, as the records say
abbrev pub last_deadline : List Metadata → List ℕ → ℕ
last_deadline ms freed = deadline_of (slice_index_or ms (slice_index freed (length freed - 1)) unused_metadata).status

abbrev pub AllDueFrom : List Counter → ℕ → List ℕ → Type 0
AllDueFrom counters moment [] = Unit {0}
AllDueFrom counters moment (id ∷ ids) = (moment ≤ deadline_at counters id) × AllDueFrom counters moment ids

-- the deadlines never fall along the queue
abbrev pub AreInOrder : List Counter → List ℕ → Type 0
AreInOrder counters [] = Unit {0}
AreInOrder counters (id ∷ ids) = AllDueFrom counters (deadline_at counters id) ids × AreInOrder counters ids

-- The ids below `used` were used, and no others. Each id in the queue was freed, and the queue has room for all ids. If
-- `in_order` is true, the deadlines never fall along the queue.
pub record IsKept (r : Registry) (room used : ℕ) (in_order : Bool) : Type 0 where
  pub few : count_of r ≤ 4096
  pub room_for_all : count_of r ≤ room
  pub used_ids : used ≤ count_of r
  pub unused : (id : ℕ) → used ≤ id → counter_at r id ≡ unused_counter
  pub in_use : (id : ℕ) → id < used → is_unused (status_at r id) ≡ false
  pub reclaimed : AreReclaimed r.counters r.freed
  pub distinct : AreDistinct r.freed
  pub order : in_order ≡ true → AreInOrder r.counters r.freed
  pub tally : length r.freed ≤ count_by (λ c. is_reclaimed c.metadata.status) r.counters
