use Rattle.std.proofs.Common.{◌≡◌, All, drop, take}
use Rattle.ring_table.specs.RunBodies.{messages_of, IsSendable}
use Rattle.ring_rings.specs.Batches.{batch_refusal_of}
use Rattle.ring_rings.proofs.producer.batch.test_batch.Given as goal

abbrev pub invariant-loop-message : goal.invariant-loop-message
invariant-loop-message l = All (IsSendable l.capacity) (take l.message-index l.messages)
    × (batch_refusal_of l.capacity (messages_of l.messages)
    ≡ batch_refusal_of l.capacity (messages_of (drop l.message-index l.messages)))
