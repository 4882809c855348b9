-- Refusals of a ring, a broadcast buffer or a message. They say what a result is with and without a refusal.
use Rattle.std.specs.Prelude.{◌≡◌, ℕ, ◌/◌, ◌%◌, ◌^◌, ◌==◌, ◌||◌, Bool, not, nat_lt, int_lt, if◌then◌else◌, ℤ, pos}
use Rattle.std.specs.Prelude.{Option, Some, None, Result, Err, MatchOption, IsOk, IsOkUnless}
use Rattle.ring_layout.specs.{declared.make_fault.MakeFault.MakeFault, declared.share.NoShares.NoShares, History.span}
use Rattle.ring_layout.specs.declared.make_fault.MakeFault.TheVariants.{BadCapacity, BadStart, OutOfMemory}
use Rattle.ring_layout.specs.Places.{end_after, max_position}

-- the result is the refusal, or Ok if there is none
abbrev pub IsRefusedBy : {T F : Type 0} → Option F → Result T F → Type 0
IsRefusedBy refusal result = MatchOption refusal (IsOk result) (λ fault. result ≡ Err fault)

-- the result is this error for the refusal, or Ok if there is none
abbrev pub IsRefusedAs : {T E F : Type 0} → (F → E) → Option F → Result T E → Type 0
IsRefusedAs error refusal result = MatchOption refusal (IsOk result) (λ fault. result ≡ Err (error fault))

-- The result is the refusal if there is one. Otherwise it is Ok, or this fault, such as out of memory.
abbrev pub IsRefusedOr : {T F : Type 0} → F → Option F → Result T F → Type 0
IsRefusedOr lack refusal result = MatchOption refusal (IsOkUnless result lack) (λ fault. result ≡ Err fault)

-- The reason why a buffer of C bytes with this start is not made. The first argument says whether its kind may have the
-- capacity.
abbrev pub make_refusal_of : Bool → ℕ → ℕ → Option MakeFault
make_refusal_of lawful C start =
    if not lawful then Some BadCapacity
    else (if not (start % C == 0) || nat_lt max_position start then Some BadStart
    else None)

-- The result is the refusal if there is one. Otherwise it is Ok, unless memory runs out.
abbrev pub IsMadeUnless : {T : Type 0} → Option MakeFault → Result T MakeFault → Type 0
IsMadeUnless refusal result = IsRefusedOr OutOfMemory refusal result

-- the number of the fault
abbrev pub make_code : MakeFault → ℤ
make_code BadCapacity = pos 1
make_code BadStart = pos 2
make_code OutOfMemory = pos 3

-- The reason why a message is refused. The type id is tested first, and then the length. The last reason is the refusal
-- that is passed in.
abbrev pub message_refusal_or : {F : Type 0} → (ℤ → F) → (ℕ → ℕ → F) → ℕ → ℤ → ℕ → Option F → Option F
message_refusal_or bad_type too_long C type_id len other =
    let longest = C / 8 in
    if int_lt type_id (pos 1) then Some (bad_type type_id)
    else (if nat_lt longest len then Some (too_long len longest)
    else other)

-- The reason why a message is refused after this tail. The type id is tested first, then the length, and then whether
-- the end is above the last position. The last reason is the refusal that is passed in.
abbrev pub place_refusal_or : {F : Type 0} → (ℤ → F) → (ℕ → ℕ → F) → (ℕ → F) → ℕ → ℕ → ℤ → ℕ → Option F → Option F
place_refusal_or bad_type too_long at_limit C tail type_id len other =
    message_refusal_or bad_type too_long C type_id len
    (if nat_lt max_position (end_after C tail (span len)) then Some (at_limit tail) else other)

-- the number of shares
abbrev pub all_shares : ℕ
all_shares = 2 ^ 16

-- the reason why the holder of this many shares gives none away
abbrev pub share_refusal_of : ℕ → Option NoShares
share_refusal_of shares = if nat_lt 1 shares then None else Some record {}
