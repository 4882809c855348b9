use Rattle.std.proofs.Common.{◌<◌, ◌∙◌, arith, length, w64}
use Rattle.std.proofs.lemmas.{Int.to_z-of_z, List.get_or_default}
use Rattle.ring_counters.specs.Counter.{unused_values}
use Rattle.ring_counters.proofs.ShownLemmas.{shows, allocated_below, valued_shown, valued_kept}
use Rattle.ring_counters.proofs.records.Records.set.Goals as goal

pub index_mut-record-requires : goal.index_mut-record-requires
index_mut-record-requires c =
    let s = shows c.self.view_is c.self.invariant in
    omega (arith, allocated_below s _ c.requires, s.same, c.self.inside.values.ok.0)

pub invariant_of-self : goal.invariant_of-self
invariant_of-self c =
    let s = shows c.self.view_is c.self.invariant in
    let less : c.args.id < length c.self.inside.values.items =
    omega (arith, allocated_below s _ c.requires, s.same) in
    let was = c.index_mut-record.ensures.value ∙ get_or_default _ _ _ unused_values less in
    let kept = valued_kept s _ c.requires _ c.args.value
    (c.set.ensures ∙ (λ i. record (was i) { value = to_z-of_z w64 c.args.value c.ranges.value i })) in
    (kept.0, kept.1, c.self.invariant.2)

pub returns : goal.returns
returns c =
    let s = shows c.self.view_is c.self.invariant in
    let less : c.args.id < length c.self.inside.values.items =
    omega (arith, allocated_below s _ c.requires, s.same) in
    let was = c.index_mut-record.ensures.value ∙ get_or_default _ _ _ unused_values less in
    valued_shown s _ c.requires _ c.args.value
    (c.set.ensures ∙ (λ i. record (was i) { value = to_z-of_z w64 c.args.value c.ranges.value i }))
