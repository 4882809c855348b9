use Rattle.std.proofs.Common.{◌∙◌, ap, refl, pos, arith, w32}
use Rattle.std.proofs.lemmas.Int.{to_z-of_z}
use Rattle.ring_counters.specs.{Counter.Allocated, Counter.state_word, Counter.zero_padded, Records.IsMetadata}
use Rattle.ring_counters.proofs.RecordLemmas.{AreSmall, metadata_decoded, allocated_shown}
use Rattle.ring_counters.proofs.records.metadata.MetadataRecord.allocate.Goals.{After-store_label}
use Rattle.ring_counters.proofs.records.metadata.MetadataRecord.allocate.Goals as goal

-- the words are those of a counter in use
shown : (c : After-store_label) → IsMetadata c.store_label.new.words (record {
  status = Allocated;
  type_id = c.args.type_id;
  key = zero_padded 112 c.args.key.now;
  label = c.args.label.now;
})
unfolding AreSmall
shown c =
    allocated_shown c.args.type_id c.args.key.now c.args.label.now _ _ _ _
    (record {
      type_fits = c.ranges.type_id;
      small_key = λ i. (c.type_inv.key i).fits;
      small_label = λ i. (c.type_inv.label i).fits;
      few_key = c.requires.key;
      few_label = c.requires.label;
    })
    (c.pack_state.ensures ∙ ap (state_word (pos 1)) (to_z-of_z w32 _ c.ranges.type_id)) refl
    (record {
      inside = c.store_bytes.ensures.inside;
      below = c.store_bytes.ensures.below;
      above = c.store_bytes.ensures.above;
    })
    (record {
      inside = c.store_label.ensures.inside;
      below = c.store_label.ensures.below;
      above = λ i far. c.store_label.ensures.above i (omega arith);
    })

pub invariant_of-self : goal.invariant_of-self
invariant_of-self c = (_, shown (goal.at.invariant_of-self c).After-store_label)

pub returns : goal.returns
returns c = metadata_decoded _ _ (shown (goal.at.returns c).After-store_label)
