use Rattle.std.proofs.Common.{◌<◌, ◌∙◌, ap, arith, length}
use Rattle.std.proofs.lemmas.List.{get_or_default}
use Rattle.ring_counters.specs.Counter.{Counter, unused_values}
use Rattle.ring_counters.proofs.ShownLemmas.{shows, shown_size, shown_at}
use Rattle.ring_counters.proofs.records.Records.values.Goals as goal

pub index-requires : goal.index-requires
index-requires c =
    let s = shows c.self.view_is c.self.invariant in
    omega (arith, shown_size s, s.same, c.self.inside.values.ok.0, c.requires)

pub returns : goal.returns
returns c =
    let s = shows c.self.view_is c.self.invariant in
    let less : c.args.id < length c.self.inside.values.items =
    omega (arith, shown_size s, s.same, c.requires) in
    c.index.ensures ∙ get_or_default _ _ _ unused_values less
    ∙ ap (λ (x : Counter). x.values) (shown_at s c.args.id)
