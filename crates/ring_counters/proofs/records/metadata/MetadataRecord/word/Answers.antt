use Rattle.ring_counters.proofs.RecordLemmas.{metadata_known}
use Rattle.ring_counters.proofs.records.metadata.MetadataRecord.word.Goals as goal

pub returns : goal.returns
returns c = (metadata_known _ _ c.self.view_is c.self.invariant).shows _ c.requires
