use Rattle.std.proofs.Common.{◌∙◌}
use Rattle.ring_handles.proofs.EndingLemmas.{leaves_committed}
use Rattle.ring_handles.proofs.closing.end_with.Goals as goal

pub returns : goal.returns
returns g c = record {
  left = leaves_committed _ _ _ _ _ c.rescue_with-rescued.ensures.rescued _
      (λ h has closed. c.from.ensures ∙ (c.drain.ensures.whole h has closed).0);
}
