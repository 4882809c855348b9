use Rattle.std.proofs.Common.{◌≡◌}
use Rattle.ring_uses.proofs.driver.client.Caller.count_up.Given as goal

abbrev pub invariant-loop-batch : goal.invariant-loop-batch
invariant-loop-batch g l = l.self.client.shared ≡ l.fn.self.client.shared
