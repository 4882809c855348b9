use Rattle.std.proofs.Common.{◌≡◌}
use Rattle.ring_uses.proofs.driver.client.Caller.set_batch.Given as goal

abbrev pub invariant-loop-value : goal.invariant-loop-value
invariant-loop-value g l = l.self.client.shared ≡ l.fn.self.client.shared

abbrev pub invariant-loop-correlation : goal.invariant-loop-correlation
invariant-loop-correlation g l = l.self.client.shared ≡ l.fn.self.client.shared
