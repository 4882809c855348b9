use Rattle.std.proofs.Common.{◌∙◌, arith, ext_get_or}
use Rattle.ring_counters.proofs.RecordLemmas.{metadata_known, key_byte}
use Rattle.ring_counters.proofs.records.metadata.MetadataRecord.key_into.Goals as goal

pub returns : goal.returns
returns c =
    let known = metadata_known _ _ c.self.view_is c.self.invariant in
    ext_get_or 0 _ _ (omega (arith, known.lawful.key_length))
    (λ k h. c.load_bytes.ensures k h ∙ key_byte _ _ known k (omega arith))
