use Rattle.std.proofs.Common.{◌+◌, [], arith}
use Rattle.ring_protocol.proofs.Joined.{joined_front, length-joined_more}
use Rattle.ring_protocol.proofs.fields.joined_len.Goals as goal

pub returns-in_err-room-clause-fits : goal.returns-in_err-room-clause-fits
returns-in_err-room-clause-fits c =
    let fields = c.args.fields.now in
    let i = c.loop-field.field-index in
    rw c.from_residual.ensures (
      λ h. absurd cc,
      λ le. absurd (omega (
        arith,
        le,
        c.in_err-room.ensures,
        length-joined_more (λ field. field.now) fields i
            (record { ref_ptr = (0, 0); now = [] }) c.loop-field-test.true,
        joined_front (λ field. field.now) fields
            (i + 1),
      )),
    )

pub loop-field-preserved : goal.loop-field-preserved
loop-field-preserved c =
    omega (
      arith,
      c.in_ok-room.ensures,
      length-joined_more
          (λ field. field.now) c.args.fields.now c.loop-field.field-index
          (record { ref_ptr = (0, 0); now = [] }) c.loop-field-test.true,
    )
