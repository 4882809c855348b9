-- The fault of a type id and a body that encode nothing.
use Rattle.std.specs.Prelude.{◌≡◌, ℕ, ◌-◌, ◌^◌, List, length, take, Option, Some, None, Result, Ok, Err, nat_lt, if◌then◌else◌}
use Rattle.std.specs.Int.{w64, from_le_bytes}
use Rattle.ring_protocol.specs.declared.fault.Bad.{Bad, TheVariants.Malformed, TheVariants.UnknownType}

-- the first 8 bytes of a body, or the greatest number if the body is shorter
unfoldable pub correlation_of : List ℕ → ℕ
correlation_of body = if nat_lt (length body) 8 then 2 ^ 64 - 1 else from_le_bytes w64 (take 8 body)

-- the fault of a body, which depends on whether its type id is known
abbrev pub IsFaultOf : Type 0 → List ℕ → Bad → Type 0
IsFaultOf known body (Malformed correlation) = known × (correlation ≡ correlation_of body)
IsFaultOf known body (UnknownType correlation) = (¬ known) × (correlation ≡ correlation_of body)

-- the message that was read from a body whose type id is known, or the fault
abbrev pub or_malformed : {X : Type 0} → List ℕ → Option X → Result X Bad
or_malformed body (Some x) = Ok x
or_malformed body None = Err (Malformed (correlation_of body))
