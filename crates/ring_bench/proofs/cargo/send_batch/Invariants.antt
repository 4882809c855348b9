use Rattle.std.proofs.Common.{◌≤◌, length}
use Rattle.ring_bench.proofs.cargo.send_batch.Given as goal

abbrev pub invariant-loop : goal.invariant-loop
invariant-loop g l = l.sent ≤ length l.messages
