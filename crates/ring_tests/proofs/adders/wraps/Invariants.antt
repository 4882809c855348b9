use Rattle.ring_adders.specs.Adders.{IsAdderOf}
use Rattle.ring_tests.proofs.adders.wraps.Given as goal

abbrev pub invariant-loop-amount : goal.invariant-loop-amount
invariant-loop-amount g l = IsAdderOf l.counter l.adder
