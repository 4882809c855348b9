use Rattle.std.proofs.Common.{◌≡◌}
use Rattle.ring_uses.proofs.driver.service.conduct.Given as goal

abbrev pub invariant-loop : goal.invariant-loop
invariant-loop g l = l.conductor.shared ≡ l.fn.conductor.shared
