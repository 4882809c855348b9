use Rattle.std.proofs.Common.{◌≡◌, ◌*◌, ◌≤◌, length}
use Rattle.ring_handles.specs.{Batch.laid, Batch.laid_end, Recovering.still_to_come}
use Rattle.ring_handles.proofs.recovering.lay_all.Given as goal

-- the messages that are left come after those that were laid
abbrev pub invariant-loop-message : goal.invariant-loop-message
invariant-loop-message l = record {
  next : (goal.iterator-loop-message).can_next l.message-iterator;
  finite : (goal.iterator-loop-message).is_finite l.message-iterator;
  within : laid_end l.at (still_to_come l.message-iterator) ≤ 2 * l.fn.recovered.capacity;
  room : laid_end l.at (still_to_come l.message-iterator) ≤ length l.buffer;
  rest : laid l.at (still_to_come l.message-iterator) l.buffer ≡ laid 0 (still_to_come l.fn.recovered) l.fn.buffer;
}
