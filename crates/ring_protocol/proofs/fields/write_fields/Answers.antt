use Rattle.std.proofs.Common.{◌+◌, ◌≤◌, [], length, arith, refl, flat_map}
use Rattle.ring_protocol.proofs.Joined.{joined_front, length-joined_more}
use Rattle.ring_protocol.proofs.fields.write_fields.Goals as goal

pub slice_bounds-copy_from_slice-end : goal.slice_bounds-copy_from_slice-end
slice_bounds-copy_from_slice-end c =
    let fields = c.args.fields.now in
    let i = c.loop-field.field-index in
    let room : length (flat_map (λ field. field.now) fields) ≤ length c.args.out.now =
    c.in_ok-len.ensures.fits.0 refl in
    omega (
      arith,
      length-joined_more (λ field. field.now) fields i
          (record { ref_ptr = (0, 0); now = [] }) c.loop-field-test.true,
      joined_front (λ field. field.now) fields
          (i + 1),
    )
