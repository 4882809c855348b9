use Rattle.ring_service.proofs.AccountLemmas.{folds_none}
use Rattle.ring_service.proofs.conductor.Conductor.new.Goals as goal

pub invariant_of-result-clause-folded : goal.invariant_of-result-clause-folded
invariant_of-result-clause-folded c =
    ∣ folds_none _ _ _ _ c.requires.consumer c.requires.transmitter c.requires.counters ∣₁
