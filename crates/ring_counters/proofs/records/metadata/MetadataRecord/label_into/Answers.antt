use Rattle.std.proofs.Common.{◌∙◌, ℕ, ◌-◌, arith, length, replicate, ext_get_or, length-append}
use Rattle.std.proofs.lemmas.{List.length-replicate, Nat.and_mask}
use Rattle.ring_counters.proofs.RecordLemmas.{metadata_known, label_byte, length_decoded, slice_index-padded}
use Rattle.ring_counters.proofs.records.metadata.MetadataRecord.label_into.Goals as goal

pub returns-clause-len : goal.returns-clause-len
returns-clause-len c = and_mask _ 32 ∙ length_decoded _ _ (metadata_known _ _ c.self.view_is c.self.invariant)

pub returns-clause-most : goal.returns-clause-most
returns-clause-most c =
    let known = metadata_known _ _ c.self.view_is c.self.invariant in
    omega (arith, and_mask _ 32 ∙ length_decoded _ _ known, known.lawful.label_length)

pub returns-clause-label : goal.returns-clause-label
returns-clause-label c =
    let known = metadata_known _ _ c.self.view_is c.self.invariant in
    let label = c.args.self.now.label in
    ext_get_or 0 _ _
    (omega (
      arith,
      known.lawful.label_length,
      length-append label
          (replicate (380 - length label) 0),
      length-replicate {A = ℕ} (380 - length label) 0,
    ))
    (λ k h. c.load_bytes.ensures k h ∙ label_byte _ _ known k (omega arith) ∙ slice_index-padded 380 label k)
