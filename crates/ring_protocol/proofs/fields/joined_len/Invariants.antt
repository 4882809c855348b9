use Rattle.std.proofs.Common.{◌≡◌, ◌+◌, length, take, flat_map}
use Rattle.ring_protocol.proofs.fields.joined_len.Given as goal

abbrev pub invariant-loop-field : goal.invariant-loop-field
invariant-loop-field l = l.room + length (flat_map (λ field. field.now) (take l.field-index l.fields)) ≡ l.limit
