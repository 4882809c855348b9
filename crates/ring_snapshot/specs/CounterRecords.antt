-- The counters in any words of metadata records and value records, and those of a registry.
use Rattle.std.specs.Prelude.{◌≡◌, ℕ, zero, suc, ◌+◌, ◌-◌, ◌*◌, ◌<◌, ◌||◌, not, int_lt, if◌then◌else◌, ℤ, pos, negsuc, nat_abs, FitsSigned, List, [], ◌∷◌, map, filter, drop, slice_index, Result, Ok, Err, Option, Some, None}
use Rattle.std.specs.{List.range_with_len, Int.cast_signed, Int.w64, Ordering.int_eq}
use Rattle.ring_counters.specs.Counter.{deadline_of, metadata_word, value_word}
use Rattle.ring_counters.specs.Counter as ring_counters
use Rattle.ring_counters.specs.Records.{bytes_at, IsWithinLimits}
use Rattle.ring_counters.specs.Registry.{Registry, count_of, counter_at, status_at, is_unused, is_allocated}
use Rattle.ring_snapshot.specs.declared.counter.{Counter.Counter, CounterState.CounterState}
use Rattle.ring_snapshot.specs.declared.counter.CounterState.TheVariants.{Allocated, Reclaimed}
use Rattle.ring_snapshot.specs.{declared.counters_finding.CountersFinding.CountersFinding, CounterWords.HaveIds}
use Rattle.ring_snapshot.specs.declared.counters_finding.CountersFinding.TheVariants.{BadState, BadLabelLength}
use Rattle.ring_snapshot.specs.declared.counters.{Counters.Counters, CountersSnapshot.CountersSnapshot}
use Rattle.ring_snapshot.specs.RingRecords.{length_in, type_in}

abbrev pub CounterEntry : Type 0
CounterEntry = Result Counter CountersFinding

-- Any words ----------------------------------------------------------------

abbrev pub state_from : ℤ → Option CounterState
state_from state =
    if int_eq state (pos 1) then Some Allocated else (if int_eq state (negsuc 0) then Some Reclaimed else None)

-- the counter of a metadata record and a value record, if the state and the length of the label are valid
abbrev pub counter_of_records : ℕ → List ℕ → List ℕ → CounterState → ℕ → Counter
counter_of_records id metadata values state len = record {
  id = id;
  state = state;
  type_id = type_in (slice_index metadata 0);
  deadline = slice_index metadata 1;
  key = bytes_at metadata 16 112;
  label = bytes_at metadata 132 len;
  value = cast_signed w64 (slice_index values 0);
  registration = slice_index values 1;
  owner = slice_index values 2;
}

abbrev pub with_label : ℕ → List ℕ → List ℕ → ℤ → CounterState → CounterEntry
with_label id metadata values len state =
    if int_lt len (pos 0) || int_lt (pos 380) len then Err (BadLabelLength id len)
    else Ok (counter_of_records id metadata values state (nat_abs len))

abbrev pub with_state : ℕ → List ℕ → List ℕ → ℤ → Option CounterState → CounterEntry
with_state id metadata values state None = Err (BadState id state)
with_state id metadata values state (Some told) =
    with_label id metadata values (length_in (slice_index metadata 16)) told

-- the entry of an id whose two records begin with these words, or nothing if the id was never used
abbrev pub entry_of : ℕ → List ℕ → List ℕ → Option CounterEntry
entry_of id metadata values =
    let state = length_in (slice_index metadata 0) in
    if int_eq state (pos 0) then None else Some (with_state id metadata values state (state_from state))

abbrev pub or_none : Option CounterEntry → List CounterEntry → List CounterEntry
or_none None rest = rest
or_none (Some entry) rest = entry ∷ rest

-- the entries of n ids from this id on
abbrev pub entries : List ℕ → List ℕ → ℕ → ℕ → List CounterEntry
entries metadata values zero id = []
entries metadata values (suc n) id =
    or_none (entry_of id (drop (64 * id) metadata) (drop (16 * id) values)) (entries metadata values n (id + 1))

-- the entries of a snapshot from an id on
abbrev pub counters_in : CountersSnapshot → ℕ → List CounterEntry
counters_in c first = entries c.metadata.now c.values.now (c.ids - first) first

-- the entries that are still to come
abbrev pub counters_left : Counters → List CounterEntry
counters_left it = counters_in it.counters it.next

-- Words of a registry ------------------------------------------------------

-- the words are those of these counters
pub record Show (metadata values : List ℕ) (r : Registry) : Type 0 where
  pub ids : HaveIds metadata values (count_of r)
  pub lawful : (id : ℕ) → id < count_of r → IsWithinLimits (counter_at r id).metadata
  pub fits : (id : ℕ) → id < count_of r → FitsSigned w64 (counter_at r id).values.value
  pub metadata_words : (id k : ℕ) → id < count_of r → k < 64
      → slice_index metadata (64 * id + k) ≡ metadata_word (counter_at r id).metadata k
  pub value_words : (id k : ℕ) → id < count_of r → k < 16
      → slice_index values (16 * id + k) ≡ value_word (counter_at r id).values k

-- a counter of a registry as a record of this state
abbrev pub counter_as : ℕ → CounterState → ring_counters.Counter → Counter
counter_as id state c = record {
  id = id;
  state = state;
  type_id = c.metadata.type_id;
  deadline = deadline_of c.metadata.status;
  key = c.metadata.key;
  label = c.metadata.label;
  value = c.values.value;
  registration = c.values.registration;
  owner = c.values.owner;
}

-- a counter of a registry, as it is listed
abbrev pub counter_of : ℕ → ring_counters.Counter → Counter
counter_of id c = counter_as id (if is_allocated c.metadata.status then Allocated else Reclaimed) c

-- the counters of the n ids from this id on that were ever allocated, in use or freed, by rising id
abbrev pub entries_of : Registry → ℕ → ℕ → List CounterEntry
entries_of r n first = map (λ id. Ok (counter_of id (counter_at r id)))
    (filter (λ id. not (is_unused (status_at r id))) (range_with_len first n))

-- the counters from an id on that were ever allocated
abbrev pub entries_from : Registry → ℕ → List CounterEntry
entries_from r first = entries_of r (count_of r - first) first
