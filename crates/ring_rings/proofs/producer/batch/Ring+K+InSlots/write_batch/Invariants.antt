use Rattle.std.proofs.Common.{◌≡◌, ◌-◌, ◌≤◌, ◌++◌, All, length, take, None}
use Rattle.ring_table.specs.RunBodies.{messages_of, IsSendable}
use Rattle.ring_rings.specs.{Batches.batch_refusal_of, Seats.capacity_of, Seats.IsProducerOf, Seats.OpensNone}
use Rattle.ring_rings.specs.Ring.{sent}
use Rattle.ring_rings.proofs.producer.batch.Ring+K+InSlots.write_batch.Given as goal

abbrev pub invariant-loop-written : goal.invariant-loop-written
invariant-loop-written g l = IsProducerOf l.self l.producer
    × (sent l.producer ≡ sent l.fn.producer ++ messages_of (take l.written l.messages))
    × (l.written ≤ length l.messages)
    × OpensNone l.self l.fn.producer l.producer
    × All (IsSendable (capacity_of l.self)) l.messages
    × (batch_refusal_of (capacity_of l.self) (messages_of l.messages) ≡ None)

abbrev pub decreases-loop-written : goal.decreases-loop-written
decreases-loop-written g l = length l.messages - l.written
