-- How a conductor ends.
use Rattle.std.specs.Prelude.{◌≡◌, MatchOption, MatchResult, None, Result}
use Rattle.ring_service.specs.{declared.finishing.Finished.Finished, Finishing.refusal_to}
use Rattle.ring_ends.specs.{Conducting.SeatedConductor, declared.finishing.NotFinished.NotFinished}
use Rattle.ring_ends.specs.declared.finishing.StopFault.TheVariants.{InUse, Refused}

-- A conductor with shares that are not back is refused for them. Otherwise it finishes, unless another end has what it
-- shares. After an error it comes back unchanged
abbrev pub IsStopped : SeatedConductor → Result Finished NotFinished → Type 0
IsStopped c x = MatchResult x (λ _. refusal_to c.conductor c.producer ≡ None)
    (λ r. (r.conductor ≡ c) × MatchOption (refusal_to c.conductor c.producer) (r.reason ≡ InUse)
    (λ fault. r.reason ≡ Refused fault))
