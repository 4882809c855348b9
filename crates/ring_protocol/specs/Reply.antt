-- Replies, and the one encoding of each.
use Rattle.std.specs.Prelude.{◌≡◌, ℕ, ℤ, pos, ◌<◌, ◌^◌, List, ◌++◌, FitsSigned}
use Rattle.std.specs.Int.{w32}
use Rattle.ring_protocol.specs.{declared.reply.Reply.Reply, Field.u32_field, Field.u64_field, Field.i32_field}
use Rattle.ring_protocol.specs.declared.reply.Reply.TheVariants.{Allocated, Done, Refused, Closed}

-- the type id of the message that encodes a reply
abbrev pub type_id_of : Reply → ℤ
type_id_of (Allocated correlation id) = pos 101
type_id_of (Done correlation) = pos 102
type_id_of (Refused correlation code) = pos 103
type_id_of (Closed correlation freed) = pos 104

-- the correlation id of the command to which this is the reply
abbrev pub correlation_id_of : Reply → ℕ
correlation_id_of (Allocated correlation id) = correlation
correlation_id_of (Done correlation) = correlation
correlation_id_of (Refused correlation code) = correlation
correlation_id_of (Closed correlation freed) = correlation

-- the body of a reply, which is the fields in this order
abbrev pub spelling_of : Reply → List ℕ
spelling_of (Allocated correlation id) = u64_field correlation ++ u32_field id
spelling_of (Done correlation) = u64_field correlation
spelling_of (Refused correlation code) = u64_field correlation ++ i32_field code
spelling_of (Closed correlation freed) = u64_field correlation ++ u32_field freed

-- a reply has an encoding if each field is in the range of its type
abbrev pub HasSpelling : Reply → Type 0
HasSpelling (Allocated correlation id) = (correlation < 2 ^ 64) × (id < 2 ^ 32)
HasSpelling (Done correlation) = correlation < 2 ^ 64
HasSpelling (Refused correlation code) = (correlation < 2 ^ 64) × FitsSigned w32 code
HasSpelling (Closed correlation freed) = (correlation < 2 ^ 64) × (freed < 2 ^ 32)

-- a type id and a body are the encoding of a reply
pub record Spells (type_id : ℤ) (body : List ℕ) (reply : Reply) : Type 0 where
  pub has_spelling : HasSpelling reply
  pub of_type : type_id_of reply ≡ type_id
  pub spelled : spelling_of reply ≡ body

-- some reply has the type id
abbrev pub IsReplyType : ℤ → Type 0
IsReplyType type_id = (reply : Reply) × (type_id_of reply ≡ type_id)
