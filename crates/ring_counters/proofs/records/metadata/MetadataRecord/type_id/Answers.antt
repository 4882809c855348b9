use Rattle.std.proofs.Common.{◌∙◌, w32}
use Rattle.ring_counters.proofs.RecordLemmas.{metadata_known, type_decoded, signed}
use Rattle.ring_counters.proofs.records.metadata.MetadataRecord.type_id.Goals as goal

pub returns : goal.returns
returns c =
    let known = metadata_known _ _ c.self.view_is c.self.invariant in
    signed w32 _ _ (c.cast_signed.ensures ∙ type_decoded _ _ known) known.lawful.type_id
