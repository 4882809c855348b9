use Rattle.std.proofs.Common.{◌≡◌}
use Rattle.ring_uses.proofs.driver.service.watch.Given as goal

abbrev pub invariant-loop : goal.invariant-loop
invariant-loop g l = l.reader.lender ≡ l.fn.reader.lender

abbrev pub invariant-loop-id : goal.invariant-loop-id
invariant-loop-id g l = l.reader.lender ≡ l.fn.reader.lender
