use Rattle.std.proofs.Common.{◌≡◌, length, take, flat_map}
use Rattle.ring_protocol.specs.Writing.{over_start}
use Rattle.ring_protocol.proofs.fields.write_fields.Given as goal

abbrev pub invariant-loop-field : goal.invariant-loop-field
invariant-loop-field l = (l.end ≡ length (flat_map (λ field. field.now) (take l.field-index l.fields)))
    × (l.out ≡ over_start (flat_map (λ field. field.now) (take l.field-index l.fields)) l.fn.out)
