use Rattle.std.proofs.Common.{◌<◌, ◌∙◌, ap, arith, length}
use Rattle.std.proofs.lemmas.List.{get_or_default}
use Rattle.ring_counters.specs.Counter.{Counter, unused_metadata}
use Rattle.ring_counters.proofs.ShownLemmas.{shows, shown_size, shown_at}
use Rattle.ring_counters.proofs.records.Records.metadata.Goals as goal

pub index-requires : goal.index-requires
index-requires c =
    let s = shows c.self.view_is c.self.invariant in
    omega (arith, shown_size s, c.self.inside.metadata.ok.0, c.requires)

pub returns : goal.returns
returns c =
    let s = shows c.self.view_is c.self.invariant in
    let less : c.args.id < length c.self.inside.metadata.items =
    omega (arith, shown_size s, c.requires) in
    c.index.ensures ∙ get_or_default _ _ _ unused_metadata less
    ∙ ap (λ (x : Counter). x.metadata) (shown_at s c.args.id)
