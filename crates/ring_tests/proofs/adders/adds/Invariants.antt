use Rattle.ring_adders.specs.Adders.{IsAdderOf}
use Rattle.ring_tests.proofs.adders.adds.Given as goal

abbrev pub invariant-loop-time : goal.invariant-loop-time
invariant-loop-time l = IsAdderOf l.counter l.adder
