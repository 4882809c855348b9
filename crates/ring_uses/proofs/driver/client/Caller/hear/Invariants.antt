use Rattle.std.proofs.Common.{◌≡◌}
use Rattle.ring_uses.proofs.driver.client.Caller.hear.Given as goal

abbrev pub invariant-loop : goal.invariant-loop
invariant-loop g l = l.self.client.shared ≡ l.fn.self.client.shared
