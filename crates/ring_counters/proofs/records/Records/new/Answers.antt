use Rattle.std.proofs.Common.{◌∙◌, sym, ap}
use Rattle.ring_counters.specs.Kept.{live_flags}
use Rattle.ring_counters.proofs.{FlagLemmas.flags_fresh, ShownLemmas.fresh_shown, ShownLemmas.fresh_kept}
use Rattle.ring_counters.proofs.records.Records.new.Goals as goal

pub invariant_of-result : goal.invariant_of-result
invariant_of-result c =
    let kept = fresh_kept _ _ _ _ _ c.in_ok-unused_metadata_records.ensures c.in_ok-unused_value_records.ensures
    c.in_ok-with_capacity.ensures.items _ c.requires c.in_ok-with_capacity.ensures.capacity in (
      kept.0,
      kept.1,
      c.in_ok-vec.ensures.items_if_clones_equal (λ y e. e) ∙ flags_fresh _
          ∙ sym (ap live_flags c.in_ok-unused_metadata_records.ensures),
    )

pub returns : goal.returns
returns c = fresh_shown _ _ _ _ _ c.in_ok-unused_metadata_records.ensures c.in_ok-unused_value_records.ensures
    c.in_ok-with_capacity.ensures.items
