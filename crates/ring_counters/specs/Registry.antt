-- The counters as a registry, and the changes that each call makes in it.
use Rattle.std.specs.Prelude.{ℕ, ◌+◌, ◌-◌, ◌≤◌, ◌==◌, Bool, true, false, ◌&&◌, ◌||◌, nat_lt, nat_le, if◌then◌else◌, ℤ, pos, int_lt, List, [], ◌∷◌, ◌++◌, map, filter, fold, find, position, length, replicate, slice_set, slice_index_or, Option, Some, None, Result, Ok, Err}
use Rattle.std.specs.{List.list_all, List.range_with_len, Int.int_wrapping_add, Int.w64, Ordering.int_eq}
use Rattle.ring_layout.specs.Lists.{or_else}
use Rattle.ring_counters.specs.declared.fault.AllocateRefused.{AllocateRefused}
use Rattle.ring_counters.specs.declared.fault.AllocateRefused.TheVariants.{KeyTooLong, LabelTooLong, LabelNotAscii, NoFreeCounter}
use Rattle.ring_counters.specs.declared.fault.MakeFault.{MakeFault, TheVariants.BadCount}
use Rattle.ring_counters.specs.declared.fault.IdFault.{IdFault, TheVariants.BadId, TheVariants.NotAllocated}
use Rattle.ring_counters.specs.Counter.{Status, Unused, Allocated, Reclaimed, Counter, zero_padded, unused_counter}

-- a record for each id, the ids that were freed and not allocated again, in order of freeing, and the reuse timeout
pub record Registry : Type 0 where
  pub counters : List Counter
  pub freed : List ℕ
  pub reuse_ms : ℕ

abbrev pub count_of : Registry → ℕ
count_of r = length r.counters

abbrev pub counter_at : Registry → ℕ → Counter
counter_at r id = slice_index_or r.counters id unused_counter

abbrev pub status_at : Registry → ℕ → Status
status_at r id = (counter_at r id).metadata.status

-- no id was ever used
abbrev pub fresh_registry : ℕ → ℕ → Registry
fresh_registry count reuse_ms = record { counters = replicate count unused_counter; freed = []; reuse_ms = reuse_ms }

-- the reason why no counters can be made
abbrev pub make_refusal_of : ℕ → Option MakeFault
make_refusal_of count = if count == 0 || nat_lt 4096 count then Some BadCount else None

abbrev pub is_unused : Status → Bool
is_unused Unused = true
is_unused Allocated = false
is_unused (Reclaimed deadline) = false

abbrev pub is_allocated : Status → Bool
is_allocated Unused = false
is_allocated Allocated = true
is_allocated (Reclaimed deadline) = false

abbrev pub is_reclaimed : Status → Bool
is_reclaimed Unused = false
is_reclaimed Allocated = false
is_reclaimed (Reclaimed deadline) = true

-- the deadline is at most now
abbrev pub is_due : ℕ → Status → Bool
is_due now Unused = false
is_due now Allocated = false
is_due now (Reclaimed deadline) = nat_le deadline now

-- ---- allocating

-- the first freed id, in order of freeing, whose deadline is at most now
abbrev pub due_id : Registry → ℕ → Option ℕ
due_id r now = find (λ id. is_due now (status_at r id)) r.freed

-- the lowest id that was never used
abbrev pub unused_id : Registry → Option ℕ
unused_id r = position (λ c. is_unused c.metadata.status) r.counters

abbrev pub next_id : Registry → ℕ → Option ℕ
next_id r now = or_else (due_id r now) (unused_id r)

-- the reason why a key and a label are refused, in the order of the tests
abbrev pub text_refusal_of : List ℕ → List ℕ → Option AllocateRefused
text_refusal_of key label =
    if nat_lt 112 (length key) then Some KeyTooLong
    else (if nat_lt 380 (length label) then Some LabelTooLong
    else (if list_all (λ b. nat_lt b 128) label then None
    else Some LabelNotAscii))

abbrev pub AreShort : List ℕ → List ℕ → Type 0
AreShort key label = (length key ≤ 112) × (length label ≤ 380)

abbrev pub given : Option AllocateRefused → Option ℕ → Result ℕ AllocateRefused
given (Some fault) id = Err fault
given None (Some id) = Ok id
given None None = Err NoFreeCounter

-- the id that an allocation gives, or the reason why it is refused
abbrev pub allocation_of : Registry → ℕ → List ℕ → List ℕ → Result ℕ AllocateRefused
allocation_of r now key label = given (text_refusal_of key label) (next_id r now)

-- a counter right after it was allocated
abbrev pub new_counter : ℤ → List ℕ → List ℕ → ℕ → ℕ → Counter
new_counter type_id key label registration owner = record {
  metadata = record { status = Allocated; type_id = type_id; key = zero_padded 112 key; label = label };
  values = record { value = pos 0; registration = registration; owner = owner };
}

-- the ids without the first one that is equal to this id
abbrev pub without : ℕ → List ℕ → List ℕ
without id [] = []
without id (x ∷ xs) = if x == id then xs else (x ∷ without id xs)

abbrev pub allocated_in : Registry → ℕ → Counter → Registry
allocated_in r id c = record r { counters = slice_set r.counters id c; freed = without id r.freed }

-- ---- a counter in use

-- the reason why an id is refused, in the order of the tests
abbrev pub id_refusal_of : Registry → ℕ → Option IdFault
id_refusal_of r id =
    if nat_le (count_of r) id then Some BadId
    else (if is_allocated (status_at r id) then None
    else Some NotAllocated)

-- the reason why an id of any record is refused
abbrev pub range_refusal_of : Registry → ℕ → Option IdFault
range_refusal_of r id = if nat_le (count_of r) id then Some BadId else None

-- the refusal, or the result if there is none
abbrev pub answer : {T E : Type 0} → Option E → T → Result T E
answer None x = Ok x
answer (Some fault) x = Err fault

abbrev pub with_value : Registry → ℕ → ℤ → Registry
with_value r id value =
    let c = counter_at r id in
    record r { counters = slice_set r.counters id (record c { values = record c.values { value = value } }) }

abbrev pub value_at : Registry → ℕ → ℤ
value_at r id = (counter_at r id).values.value

-- the value of a counter after this addition, modulo 2^64
abbrev pub value_plus : Registry → ℕ → ℤ → ℤ
value_plus r id delta = int_wrapping_add w64 (value_at r id) delta

-- whether a counter's value is below this one
abbrev pub is_raised_by : Registry → ℕ → ℤ → Bool
is_raised_by r id value = int_lt (value_at r id) value

-- A counter is freed at a moment. Its id may be allocated again after the timeout, and its other words stay.
abbrev pub reclaimed_in : Registry → ℕ → ℕ → Registry
reclaimed_in r now id =
    let c = counter_at r id in
    record r {
      counters = slice_set r.counters id
          (record c { metadata = record c.metadata { status = Reclaimed (now + r.reuse_ms) } });
      freed = r.freed ++ id ∷ [];
    }

-- ---- all counters

abbrev pub ids_of : Registry → List ℕ
ids_of r = range_with_len 0 (count_of r)

-- the ids of the allocated counters, rising
abbrev pub live_ids : Registry → List ℕ
live_ids r = filter (λ id. is_allocated (status_at r id)) (ids_of r)

-- the finite map of the allocated ids, by rising id
abbrev pub live_of : Registry → List (ℕ × Counter)
live_of r = map (λ id. (id, counter_at r id)) (live_ids r)

-- the counters from this id on that are in use, by rising id
abbrev pub live_from : Registry → ℕ → List (ℕ × Counter)
live_from r first = map (λ id. (id, counter_at r id))
    (filter (λ id. is_allocated (status_at r id)) (range_with_len first (count_of r - first)))

abbrev pub is_registered : ℤ → ℕ → Counter → Bool
is_registered type_id registration c =
    is_allocated c.metadata.status && int_eq c.metadata.type_id type_id && c.values.registration == registration

-- the lowest id in use with this type and registration
abbrev pub registered_id : Registry → ℤ → ℕ → Option ℕ
registered_id r type_id registration = position (is_registered type_id registration) r.counters

abbrev pub is_owned : ℕ → Counter → Bool
is_owned owner c = is_allocated c.metadata.status && c.values.owner == owner

-- the ids of the allocated counters of an owner, rising
abbrev pub owned_ids : Registry → ℕ → List ℕ
owned_ids r owner = filter (λ id. is_owned owner (counter_at r id)) (ids_of r)

-- each counter of an owner is freed, by rising id
abbrev pub closed_in : Registry → ℕ → ℕ → Registry
closed_in r now owner = fold (λ s id. reclaimed_in s now id) r (owned_ids r owner)
