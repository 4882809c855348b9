-- Counters with their values, a reader with the values that it reads, and what calls of them do: m is the manager
-- before, n after, c are the counters before, d after, r is the reader before, s after.
use Rattle.std.specs.Prelude.{◌≡◌, ◌≢◌, ◌<◌, ◌≤◌, ℕ, ◌+◌, ℤ, pos, Bool, List, [], ◌∷◌, ◌++◌, length, false, true}
use Rattle.std.specs.Prelude.{MatchResult, None, Option, Result}
use Rattle.ring_counters.specs.declared.fault.{AllocateRefused.AllocateRefused, BadOwner.BadOwner, IdFault.IdFault}
use Rattle.ring_counters.specs.declared.{fault.BadId.BadId, manager.CountersManager.CountersManager}
use Rattle.ring_counters.specs.declared.values.seats.{CounterValues.CounterValues, ValueReader.ValueReader}
use Rattle.ring_counters.specs.{Available.has_value, ValueWrites.AreLoads, Views.value_write}
use Rattle.ring_counters.specs.Manager.{refusal_at, registry_of, shares_of, writes_of, KeepsValues, SetsValue}
use Rattle.ring_counters.specs.Registry.{Registry, allocated_in, allocation_of, answer, closed_in, is_raised_by, new_counter, owned_ids, reclaimed_in, value_at, value_plus}
use Rattle.ring_counters.specs.Seats.{loads_of, made_of, values_count, IsNewReaderOf, LoadsValue}
use Rattle.ring_ends.specs.declared.lending.Shared.{Shared}

pub record Counters : Type 0 where
  -- what readers read
  pub values : CounterValues
  -- what the manager knows
  pub manager : CountersManager

pub record SeatedReader : Type 0 where
  -- what it reads
  pub values : CounterValues
  -- what a conductor shares, if the values are one's
  pub lender : Option Shared
  -- what the reader knows
  pub reader : ValueReader

-- the call did this to the manager, and returned x; the values stay
abbrev pub Manages : {R : Type 0} → (CountersManager → R → CountersManager → Type 0) → Counters → R → Counters → Type 0
Manages Call c x d = (d ≡ record c { manager = d.manager }) × Call c.manager x d.manager

-- Values ---------------------------------------------------------------------------

-- the counter with this id got this value, and no share was given or taken
pub record Stores (id : ℕ) (value : ℤ) (m n : CountersManager) : Type 0 where
  pub sets : SetsValue id value m n
  pub shares : shares_of n ≡ shares_of m

-- the call returned what was asked, and the counter got this value; or the id was refused, and nothing changed
abbrev pub Sets : {T : Type 0} → ℕ → ℤ → T → CountersManager → Result T IdFault → CountersManager → Type 0
Sets id value asked m x n =
    (x ≡ answer (refusal_at m id) asked) × MatchResult x (λ _. Stores id value m n) (λ _. n ≡ m)

-- the counter got this value, and the call returned the value before
abbrev pub Replaces : ℕ → ℤ → CountersManager → Result ℤ IdFault → CountersManager → Type 0
Replaces id value m = Sets id value (value_at (registry_of m) id) m

-- this much was added, and the call returned the value before
abbrev pub AddsTo : ℕ → ℤ → CountersManager → Result ℤ IdFault → CountersManager → Type 0
AddsTo id delta m = Replaces id (value_plus (registry_of m) id delta) m

-- the call returned whether the test holds, and then the counter got this value; otherwise nothing changed
abbrev pub SetsIf : Bool → ℕ → ℤ → CountersManager → Result Bool IdFault → CountersManager → Type 0
SetsIf test id value m x n = (x ≡ answer (refusal_at m id) test)
    × MatchResult x (λ was. (was ≡ true → Stores id value m n) × (was ≡ false → n ≡ m)) (λ _. n ≡ m)

-- the value was raised to this one, if it was below it
abbrev pub Raises : ℕ → ℤ → CountersManager → Result Bool IdFault → CountersManager → Type 0
Raises id value m = SetsIf (is_raised_by (registry_of m) id value) id value m

-- the value was set to this one, if it was the expected one
abbrev pub SetsExpected : ℕ → ℤ → ℤ → CountersManager → Result Bool IdFault → CountersManager → Type 0
SetsExpected id expected value m = SetsIf (has_value (registry_of m) id expected) id value m

-- Allocating and freeing -----------------------------------------------------------

-- a counter with this id was allocated, and its value is 0
pub record Allocates (type_id : ℤ) (key label : List ℕ) (registration owner id : ℕ)
    (m n : CountersManager) : Type 0 where
  pub registry : registry_of n
      ≡ allocated_in (registry_of m) id (new_counter type_id key label registration owner)
  pub writes : writes_of n ≡ writes_of m ++ value_write id (pos 0) ∷ []
  pub shares : shares_of n ≡ shares_of m

-- the call returned its id; or it was refused, and nothing changed
abbrev pub TriesAllocate : ℕ → ℤ → List ℕ → List ℕ → ℕ → ℕ → CountersManager → Result ℕ AllocateRefused
    → CountersManager → Type 0
TriesAllocate now type_id key label registration owner m x n = (x ≡ allocation_of (registry_of m) now key label)
    × MatchResult x (λ id. Allocates type_id key label registration owner id m n) (λ _. n ≡ m)

-- counters were freed, which makes this registry, and no value was written
pub record FreesTo (freed : Registry) (m n : CountersManager) : Type 0 where
  pub registry : registry_of n ≡ freed
  pub values : KeepsValues m n

-- the counter was freed; or the id was refused, and nothing changed
abbrev pub Frees : ℕ → ℕ → CountersManager → Result (Unit {0}) IdFault → CountersManager → Type 0
Frees now id m x n = (x ≡ answer (refusal_at m id) tt)
    × MatchResult x (λ _. FreesTo (reclaimed_in (registry_of m) now id) m n) (λ _. n ≡ m)

-- the owner's counters were freed, and the call returned their number; or the owner is 0, and nothing changed
abbrev pub ClosesOwner : ℕ → ℕ → CountersManager → Result ℕ BadOwner → CountersManager → Type 0
ClosesOwner now owner m x n = MatchResult x
    (λ freed. (owner ≢ 0) × (freed ≡ length (owned_ids (registry_of m) owner))
    × FreesTo (closed_in (registry_of m) now owner) m n)
    (λ _. (owner ≡ 0) × (n ≡ m))

-- Readers --------------------------------------------------------------------------

-- the counters and their writes are as before
abbrev pub KeepsWrites : Counters → Counters → Type 0
KeepsWrites c d = (d ≡ record c { manager = d.manager }) × (registry_of d.manager ≡ registry_of c.manager)
    × (writes_of d.manager ≡ writes_of c.manager)

-- a share was moved to a reader of these values, which has seen every write so far
pub record Lends (c : Counters) (r : SeatedReader) (d : Counters) : Type 0 where
  pub shares : shares_of d.manager + 1 ≡ shares_of c.manager
  pub keeps : KeepsWrites c d
  pub values : r.values ≡ c.values
  pub own : r.lender ≡ None
  pub reader : IsNewReaderOf c.values (writes_of c.manager) r.reader

-- a reader was taken back, with its share: what it loaded are values after first parts of the writes
pub record TakesReader (c : Counters) (r : SeatedReader) (d : Counters) : Type 0 where
  pub shares : shares_of d.manager ≡ shares_of c.manager + 1
  pub keeps : KeepsWrites c d
  pub loads : AreLoads (made_of r.reader) (loads_of r.reader) (writes_of d.manager)

-- the call returned a value of the id, which is one more load; or there is no such id, and nothing changed
abbrev pub Loads : ℕ → SeatedReader → Result ℤ BadId → SeatedReader → Type 0
Loads id r x s = (s ≡ record r { reader = s.reader }) × (made_of s.reader ≡ made_of r.reader)
    × MatchResult x (λ value. (id < values_count r.values) × LoadsValue id value r.reader s.reader)
    (λ _. (values_count r.values ≤ id) × (s ≡ r))
