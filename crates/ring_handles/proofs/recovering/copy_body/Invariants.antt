use Rattle.std.proofs.Common.{◌≡◌, ◌+◌, ◌≤◌, length}
use Rattle.ring_layout.specs.History.{overwritten}
use Rattle.ring_handles.proofs.recovering.copy_body.Given as goal

-- the bytes that are left come after those that were copied
abbrev pub invariant-loop-byte : goal.invariant-loop-byte
invariant-loop-byte l = record {
  next : (goal.iterator-loop-byte).can_next l.byte-iterator;
  finite : (goal.iterator-loop-byte).is_finite l.byte-iterator;
  room : l.end + length l.byte-iterator ≤ length l.buffer;
  rest : overwritten l.end l.byte-iterator l.buffer ≡ overwritten l.fn.at l.fn.body l.fn.buffer;
}
