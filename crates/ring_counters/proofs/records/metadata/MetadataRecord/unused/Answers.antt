use Rattle.ring_counters.proofs.RecordLemmas.{metadata_decoded, unused_metadata_shown}
use Rattle.ring_counters.proofs.records.metadata.MetadataRecord.unused.Goals as goal

pub invariant_of-result : goal.invariant_of-result
invariant_of-result c = (_, unused_metadata_shown)

pub returns : goal.returns
returns c = metadata_decoded _ _ unused_metadata_shown
