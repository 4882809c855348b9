use Rattle.std.proofs.Common.{rules, FitsSigned, w32}
use Rattle.ring_protocol.specs.declared.reply.Reply.TheVariants.{Allocated, Done, Refused, Closed}
use Rattle.ring_protocol.proofs.Written.{encodes_reply, is_u32, is_u64, is_i32, one_field, two_fields}
use Rattle.ring_protocol.proofs.reply.encode_reply.Goals as goal

pub returns-in-Allocated : goal.returns-in-Allocated
returns-in-Allocated c =
    let a = c.in-Allocated in
    rw a.is (encodes_reply (Allocated a.correlation a.id) _ _ _ _ _
    (search rules)
    (two_fields _ _ _ _ (is_u64 _ _ c.to_le_bytes.ensures) (is_u32 _ _ c.to_le_bytes-in-Allocated.ensures))
    c.unwrap.ensures
    c.write_fields.ensures)

pub returns-in-Done : goal.returns-in-Done
returns-in-Done c =
    let a = c.in-Done in
    rw a.is (encodes_reply (Done a.correlation) _ _ _ _ _
    (search rules)
    (one_field _ _ (is_u64 _ _ c.to_le_bytes-in-Done.ensures))
    c.unwrap-in-Done.ensures
    c.write_fields-in-Done.ensures)

pub returns-in-Refused : goal.returns-in-Refused
returns-in-Refused c =
    let a = c.in-Refused in
    let code_fits : FitsSigned w32 a.code = search rules in
    rw a.is (encodes_reply (Refused a.correlation a.code) _ _ _ _ _
    (search rules)
    (two_fields _ _ _ _ (is_u64 _ _ c.to_le_bytes-in-Refused.ensures)
    (is_i32 _ _ code_fits c.to_le_bytes-in-Refused-2.ensures))
    c.unwrap-in-Refused.ensures
    c.write_fields-in-Refused.ensures)

pub returns-in-Closed : goal.returns-in-Closed
returns-in-Closed c =
    let a = c.in-Closed in
    rw a.is (encodes_reply (Closed a.correlation a.freed) _ _ _ _ _
    (search rules)
    (two_fields _ _ _ _ (is_u64 _ _ c.to_le_bytes-in-Closed.ensures) (is_u32 _ _ c.to_le_bytes-in-Closed-2.ensures))
    c.unwrap-in-Closed.ensures
    c.write_fields-in-Closed.ensures)
