use Rattle.std.proofs.Common.{◌∙◌, ap, negsuc, w32}
use Rattle.ring_counters.specs.Counter.{state_word}
use Rattle.ring_counters.proofs.RecordLemmas.{metadata_known, metadata_decoded, reclaimed_shown, signed}
use Rattle.ring_counters.proofs.records.metadata.MetadataRecord.reclaim.Goals as goal

pub invariant_of-self : goal.invariant_of-self
invariant_of-self c =
    let known = metadata_known _ _ c.self.view_is c.self.invariant in (
      _,
      reclaimed_shown _ _ _ _ known c.self.told
          (c.pack_state.ensures ∙ ap (state_word (negsuc 0)) (signed w32 _ _ c.type_id.ensures known.lawful.type_id)),
    )

pub returns : goal.returns
returns c =
    let known = metadata_known _ _ c.self.view_is c.self.invariant in
    metadata_decoded _ _ (reclaimed_shown _ _ _ _ known c.self.told
    (c.pack_state.ensures ∙ ap (state_word (negsuc 0)) (signed w32 _ _ c.type_id.ensures known.lawful.type_id)))
