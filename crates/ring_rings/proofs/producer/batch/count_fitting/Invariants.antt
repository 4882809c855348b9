use Rattle.std.proofs.Common.{◌≡◌, ◌≤◌, take}
use Rattle.ring_table.specs.{RunBodies.messages_of, Runs.run_bytes}
use Rattle.ring_rings.proofs.producer.batch.count_fitting.Given as goal

abbrev pub invariant-loop-message : goal.invariant-loop-message
invariant-loop-message l = (l.fitting.count ≡ l.message-index)
    × (run_bytes (messages_of (take l.message-index l.messages)) ≡ l.fitting.bytes)
    × (l.fitting.bytes ≤ l.limit)
