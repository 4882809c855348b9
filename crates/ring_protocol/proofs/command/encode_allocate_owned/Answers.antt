use Rattle.std.proofs.Common.{arith, refl}
use Rattle.ring_protocol.specs.{Command.AllocateOwned, Command.with_id, Field.IsSized}
use Rattle.ring_protocol.proofs.Written.{encodes, are_bytes, is_u64, is_i32, allocate_owned_text}
use Rattle.ring_protocol.proofs.command.encode_allocate_owned.Goals as goal

pub returns : goal.returns
returns c =
    let key : IsSized c.args.key.now =
    (are_bytes c.args.key.now (λ i. omega (arith, c.type_inv.key i)), c.in_ok-len_field.ensures.fits.0 refl) in
    let label : IsSized c.args.label.now = (
      are_bytes c.args.label.now (λ i. omega (arith, c.type_inv.label i)),
      c.in_ok-len_field-2.ensures.fits.0
          refl,
    ) in
    encodes (with_id c.args.correlation (AllocateOwned c.args.type_id c.args.owner c.args.key.now c.args.label.now)) _ _ _ _
    (key.1, label.1)
    (c.ranges.correlation.fits, (c.ranges.type_id, c.ranges.owner.fits, key, label))
    (allocate_owned_text c.args.correlation c.args.type_id c.args.owner c.args.key.now c.args.label.now _ _ _ _ _
    (is_u64 _ _ c.to_le_bytes.ensures) (is_i32 _ _ c.ranges.type_id c.to_le_bytes-2.ensures)
    (is_u64 _ _ c.to_le_bytes-3.ensures) c.in_ok-len_field.ensures.len c.in_ok-len_field-2.ensures.len)
    c.write_fields.ensures
