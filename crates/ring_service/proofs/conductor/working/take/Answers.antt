use Rattle.ring_service.proofs.WorkLemmas.{stays, worked}
use Rattle.ring_service.proofs.conductor.working.take.Goals as goal

pub returns-clause-same : goal.returns-clause-same
returns-clause-same g c = stays _ _ _ _ _ _ c.controlled_read-end.ensures.controls

pub returns-clause-works : goal.returns-clause-works
returns-clause-works g c =
    let e = c.controlled_read-end.ensures in
    worked _ _ _ _ _ _ _
    (record { messages = c.from.ensures; stopped = c.work_stop.ensures; ends = e.ends }) e.controls
