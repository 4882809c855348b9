-- What calls of counters do: c are the counters before, d after, and the code is what is returned.
use Rattle.std.specs.Prelude.{◌≡◌, ◌⊎◌, ◌<◌, ◌≤◌, ◌^◌, ℕ, ℤ, Bool, true, false, List, length, Some, None, Ok, Err, MatchResult, Result}
use Rattle.ring_layout.specs.History.{overwritten}
use Rattle.ring_counters.specs.{declared.fault.BadOwner.BadOwner, declared.fault.IdFault.IdFault, Manager.registry_of}
use Rattle.ring_counters.specs.{declared.manager.CountersManager.CountersManager, Codes.allocate_code, Codes.id_code}
use Rattle.ring_counters.specs.Available.{available_in}
use Rattle.ring_counters.specs.Registry.{Registry, answer, counter_at, count_of, id_refusal_of, range_refusal_of, registered_id}
use Rattle.ring_ends.specs.Counters.{AddsTo, ClosesOwner, Frees, Manages, Raises, Replaces, Sets, SetsExpected, TriesAllocate}
use Rattle.ring_handles.specs.declared.counters.CountersSide.{CountersSide}
use Rattle.ring_layout.specs.declared.refusal_codes.TheConstants.{BAD_OWNER, NOT_ALLOCATED}
use Rattle.ring_handles.specs.declared.code.TheConstants.{BAD_MOMENT, DONE, SHORT_BUFFER}

-- What is reported -----------------------------------------------------------------

-- the code of what a call returned: DONE, or the number of the refusal
abbrev pub result_code : {T F : Type 0} → (F → ℤ) → Result T F → ℤ
result_code number (Ok x) = DONE
result_code number (Err fault) = number fault

-- what is out after it: what was returned, or what was out before
abbrev pub answer_or : {T F : Type 0} → T → Result T F → T
answer_or before (Ok x) = x
answer_or before (Err fault) = before

-- what a call returned is put out, and its code is returned
abbrev pub Tells : {T F : Type 0} → (F → ℤ) → Result T F → T → T → ℤ → Type 0
Tells number x before after code = (code ≡ result_code number x) × (after ≡ answer_or before x)

-- what is out after a call that may have set a value: 1 if it did, 0 if not, or what was out before
abbrev pub set_or : {F : Type 0} → ℕ → Result Bool F → ℕ
set_or before (Ok true) = 1
set_or before (Ok false) = 0
set_or before (Err fault) = before

abbrev pub TellsSet : Result Bool IdFault → ℕ → ℕ → ℤ → Type 0
TellsSet x before after code = (code ≡ result_code id_code x) × (after ≡ set_or before x)

-- The call did this to the end, and P holds of what it returned. The number stays.
abbrev pub ByCounters : {R : Type 0} → (R → Type 0) → (CountersManager → R → CountersManager → Type 0) → CountersSide
    → CountersSide → Type 0
ByCounters {R} P Call c d = (x : R) × P x × (d.identity ≡ c.identity) × Manages Call c.end x d.end

-- Values ---------------------------------------------------------------------------

-- a counter in use got this value
abbrev pub WasSet : ℕ → ℤ → CountersSide → CountersSide → ℤ → Type 0
WasSet id value c d code = ByCounters (λ x. code ≡ result_code id_code x) (Sets {T = Unit {0}} id value tt) c d

-- the counter got this value, and the value before is put out
abbrev pub WasReplaced : ℕ → ℤ → ℤ → ℤ → CountersSide → CountersSide → ℤ → Type 0
WasReplaced id value before after c d code =
    ByCounters (λ x. Tells id_code x before after code) (Replaces id value) c d

-- this much was added, and the value before is put out
abbrev pub WasAdded : ℕ → ℤ → ℤ → ℤ → CountersSide → CountersSide → ℤ → Type 0
WasAdded id delta before after c d code = ByCounters (λ x. Tells id_code x before after code) (AddsTo id delta) c d

-- the value was raised to this one, if it was below it
abbrev pub WasProposed : ℕ → ℤ → ℕ → ℕ → CountersSide → CountersSide → ℤ → Type 0
WasProposed id value before after c d code = ByCounters (λ x. TellsSet x before after code) (Raises id value) c d

-- the value was set to this one, if it was the expected one
abbrev pub WasCompared : ℕ → ℤ → ℤ → ℕ → ℕ → CountersSide → CountersSide → ℤ → Type 0
WasCompared id expected value before after c d code =
    ByCounters (λ x. TellsSet x before after code) (SetsExpected id expected value) c d

-- Allocating and freeing -----------------------------------------------------------

-- the moment is above 2^62, and nothing changed, as Same says; otherwise P holds
abbrev pub AtMoment : ℕ → Type 0 → Type 0 → ℤ → Type 0
AtMoment now Same P code = ((2 ^ 62 < now) × (code ≡ BAD_MOMENT) × Same) ⊎ ((now ≤ 2 ^ 62) × P)

-- a counter was freed
abbrev pub WasFreed : ℕ → ℕ → CountersSide → CountersSide → ℤ → Type 0
WasFreed now id c d code =
    AtMoment now (d ≡ c) (ByCounters (λ x. code ≡ result_code id_code x) (Frees now id) c d) code

-- an owner's counters were freed, and their number is put out
abbrev pub OwnerClosed : ℕ → ℕ → ℕ → ℕ → CountersSide → CountersSide → ℤ → Type 0
OwnerClosed now owner before freed c d code = AtMoment now ((d ≡ c) × (freed ≡ before))
    (ByCounters (λ x. Tells {F = BadOwner} (λ _. BAD_OWNER) x before freed code) (ClosesOwner now owner) c d) code

-- a counter was allocated, and its id is put out
abbrev pub WasAllocated : ℕ → ℤ → List ℕ → List ℕ → ℕ → ℕ → ℕ → ℕ → CountersSide → CountersSide → ℤ → Type 0
WasAllocated now type_id key label registration owner before id c d code =
    ByCounters (λ x. Tells allocate_code x before id code) (TriesAllocate now type_id key label registration owner) c d

-- Asking ---------------------------------------------------------------------------

-- a counter in use was asked for
abbrev pub TellsOf : {T : Type 0} → (Registry → T) → ℕ → CountersManager → T → T → ℤ → Type 0
TellsOf ask id m = Tells id_code (answer (id_refusal_of (registry_of m) id) (ask (registry_of m)))

-- the record with this id was asked for, whether the counter is in use or not
abbrev pub TellsOfRecord : {T : Type 0} → (Registry → T) → ℕ → CountersManager → T → T → ℤ → Type 0
TellsOfRecord ask id m = Tells id_code (answer (range_refusal_of (registry_of m) id) (ask (registry_of m)))

-- P holds of what the counters reported, and they did not change
abbrev pub Asks : {T : Type 0} → (CountersManager → T → T → ℤ → Type 0) → T → T → CountersSide → CountersSide → ℤ
    → Type 0
Asks P before after c d code = (d ≡ c) × P c.end.manager before after code

-- the counters were asked of this id, and did not change
abbrev pub Asked : {T : Type 0} → (Registry → T) → ℕ → T → T → CountersSide → CountersSide → ℤ → Type 0
Asked ask id = Asks (TellsOf ask id)

-- the lowest id in use of a type and a registration id
abbrev pub TellsFound : ℤ → ℕ → CountersManager → ℕ → ℕ → ℤ → Type 0
TellsFound type_id registration m before id code =
    ((code ≡ DONE) × (registered_id (registry_of m) type_id registration ≡ Some id))
    ⊎ ((code ≡ NOT_ALLOCATED) × (registered_id (registry_of m) type_id registration ≡ None) × (id ≡ before))

abbrev pub WasFound : ℤ → ℕ → ℕ → ℕ → CountersSide → CountersSide → ℤ → Type 0
WasFound type_id registration = Asks (TellsFound type_id registration)

-- the number of ids
abbrev pub TellsCount : CountersManager → ℕ → ℕ → ℤ → Type 0
TellsCount m before count code = (code ≡ DONE) × (count ≡ count_of (registry_of m))

-- the number of ids that can be allocated at this moment
abbrev pub TellsAvailable : ℕ → CountersManager → ℕ → ℕ → ℤ → Type 0
TellsAvailable now m before available code = (code ≡ DONE) × (available ≡ available_in (registry_of m) now)

-- these bytes are at the front of the buffer, or it is too short for them, and stays
abbrev pub FillsBuffer : List ℕ → List ℕ → List ℕ → ℤ → Type 0
FillsBuffer bytes before after code =
    ((code ≡ DONE) × (length bytes ≤ length before) × (after ≡ overwritten 0 bytes before))
    ⊎ ((code ≡ SHORT_BUFFER) × (length before < length bytes) × (after ≡ before))

abbrev pub label_in : CountersManager → ℕ → List ℕ
label_in m id = (counter_at (registry_of m) id).metadata.label

-- what a look at a label puts out: its length, and the buffer
pub record LabelOut : Type 0 where
  pub len : ℕ
  pub buffer : List ℕ

abbrev pub label_out : ℕ → List ℕ → LabelOut
label_out len buffer = record { len = len; buffer = buffer }

-- the label's length is put out, and the label if there is room for it
abbrev pub TellsLabel : ℕ → CountersManager → LabelOut → LabelOut → ℤ → Type 0
TellsLabel id m before after code =
    (x : Result ℕ IdFault) × (x ≡ answer (id_refusal_of (registry_of m) id) (length (label_in m id))) × MatchResult x
    (λ len. (after.len ≡ len) × FillsBuffer (label_in m id) before.buffer after.buffer code)
    (λ fault. (code ≡ id_code fault) × (after ≡ before))

-- the key of 112 bytes is put out, if there is room for it
abbrev pub TellsKey : ℕ → CountersManager → List ℕ → List ℕ → ℤ → Type 0
TellsKey id m before after code =
    (x : Result (Unit {0}) IdFault) × (x ≡ answer (id_refusal_of (registry_of m) id) tt) × MatchResult x
    (λ _. FillsBuffer (counter_at (registry_of m) id).metadata.key before after code)
    (λ fault. (code ≡ id_code fault) × (after ≡ before))
