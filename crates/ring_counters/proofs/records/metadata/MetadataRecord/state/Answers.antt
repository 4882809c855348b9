use Rattle.std.proofs.Common.{◌∙◌, ap, w32}
use Rattle.std.{specs.Int.cast_signed, proofs.lemmas.Nat.and_mask}
use Rattle.ring_counters.proofs.RecordLemmas.{metadata_known, state_decoded, state_fits, signed}
use Rattle.ring_counters.proofs.records.metadata.MetadataRecord.state.Goals as goal

pub returns : goal.returns
returns c =
    let known = metadata_known _ _ c.self.view_is c.self.invariant in
    signed w32 _ _ (c.cast_signed.ensures ∙ ap (cast_signed w32) (and_mask _ 32) ∙ state_decoded _ _ known)
    (state_fits _)
