-- Commands and replies, read from the front of a body to its end.
use Rattle.std.specs.Prelude.{ℕ, ℤ, pos, List, Option, Result, Err, if◌then◌else◌}
use Rattle.std.specs.Ordering.{int_eq}
use Rattle.ring_protocol.specs.declared.{fault.Bad.Bad, fault.Bad.TheVariants.UnknownType, reply.Reply.Reply}
use Rattle.ring_protocol.specs.Field.{Reader, ◌⊗◌, whole, u32_at, u64_at, i32_at, i64_at, sized_at}
use Rattle.ring_protocol.specs.Bad.{correlation_of, or_malformed}
use Rattle.ring_protocol.specs.declared.reply.Reply.TheVariants.{Allocated, Done, Refused, Closed}
use Rattle.ring_protocol.specs.Command.{Instruction, Request, Allocate, Free, Set, AllocateOwned, Close, with_id}

-- the command of a correlation id and these fields, from which the request is made
abbrev pub asking : {V : Type 0} → (V → Request (List ℕ)) → Reader V → List ℕ → Option Instruction
asking made fields body = whole (λ v. with_id v.0 (made v.1)) (u64_at ⊗ fields) body

unfoldable pub allocate_of : List ℕ → Option Instruction
allocate_of body = asking (λ v. Allocate v.0.0 v.0.1 v.1) (i32_at ⊗ sized_at ⊗ sized_at) body

unfoldable pub free_of : List ℕ → Option Instruction
free_of body = asking (λ id. Free id) u32_at body

unfoldable pub set_of : List ℕ → Option Instruction
set_of body = asking (λ v. Set v.0 v.1) (u32_at ⊗ i64_at) body

unfoldable pub allocate_owned_of : List ℕ → Option Instruction
allocate_owned_of body =
    asking (λ v. AllocateOwned v.0.0.0 v.0.0.1 v.0.1 v.1) (i32_at ⊗ u64_at ⊗ sized_at ⊗ sized_at) body

unfoldable pub close_of : List ℕ → Option Instruction
close_of body = asking (λ owner. Close owner) u64_at body

-- the command that a type id and a body encode, or their fault
unfoldable pub command_of : ℤ → List ℕ → Result Instruction Bad
command_of type_id body =
    if int_eq type_id (pos 1) then or_malformed body (allocate_of body)
    else if int_eq type_id (pos 2) then or_malformed body (free_of body)
    else if int_eq type_id (pos 3) then or_malformed body (set_of body)
    else if int_eq type_id (pos 4) then or_malformed body (allocate_owned_of body)
    else if int_eq type_id (pos 5) then or_malformed body (close_of body)
    else Err (UnknownType (correlation_of body))

unfoldable pub allocated_of : List ℕ → Option Reply
allocated_of body = whole (λ v. Allocated v.0 v.1) (u64_at ⊗ u32_at) body

unfoldable pub done_of : List ℕ → Option Reply
done_of body = whole (λ v. Done v) u64_at body

unfoldable pub refused_of : List ℕ → Option Reply
refused_of body = whole (λ v. Refused v.0 v.1) (u64_at ⊗ i32_at) body

unfoldable pub closed_of : List ℕ → Option Reply
closed_of body = whole (λ v. Closed v.0 v.1) (u64_at ⊗ u32_at) body

-- the reply that a type id and a body encode, or their fault
unfoldable pub reply_of : ℤ → List ℕ → Result Reply Bad
reply_of type_id body =
    if int_eq type_id (pos 101) then or_malformed body (allocated_of body)
    else if int_eq type_id (pos 102) then or_malformed body (done_of body)
    else if int_eq type_id (pos 103) then or_malformed body (refused_of body)
    else if int_eq type_id (pos 104) then or_malformed body (closed_of body)
    else Err (UnknownType (correlation_of body))
