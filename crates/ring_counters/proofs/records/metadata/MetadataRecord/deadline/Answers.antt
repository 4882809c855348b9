use Rattle.ring_counters.proofs.RecordLemmas.{metadata_known, deadline_shown}
use Rattle.ring_counters.proofs.records.metadata.MetadataRecord.deadline.Goals as goal

pub returns : goal.returns
returns c = deadline_shown _ _ (metadata_known _ _ c.self.view_is c.self.invariant)
