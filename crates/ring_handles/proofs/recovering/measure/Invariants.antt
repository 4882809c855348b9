use Rattle.std.proofs.Common.{◌≡◌, ◌+◌, length}
use Rattle.ring_recovery.specs.Recovered.{messages_left}
use Rattle.ring_handles.specs.{Batch.laid_end, Recovering.still_to_come}
use Rattle.ring_handles.proofs.recovering.measure.Given as goal

-- the messages that are left come after those that were measured
abbrev pub invariant-loop-message : goal.invariant-loop-message
invariant-loop-message l = record {
  next : (goal.iterator-loop-message).can_next l.message-iterator;
  finite : (goal.iterator-loop-message).is_finite l.message-iterator;
  count : l.count + length (messages_left l.message-iterator) ≡ length (messages_left l.recovered);
  used : laid_end l.used (still_to_come l.message-iterator) ≡ laid_end 0 (still_to_come l.recovered);
}
