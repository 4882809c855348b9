use Rattle.std.proofs.Common.{◌<◌, ◌∙◌, ap, arith, false, length}
use Rattle.std.proofs.lemmas.List.{get_or_default}
use Rattle.ring_counters.specs.{Counter.Counter, Registry.is_allocated}
use Rattle.ring_counters.proofs.FlagLemmas.{flags_size, flag_at}
use Rattle.ring_counters.proofs.ShownLemmas.{shows, shown_size, shown_at}
use Rattle.ring_counters.proofs.records.Records.is_live.Goals as goal

pub index-requires : goal.index-requires
index-requires c =
    let s = shows c.self.view_is c.self.invariant in
    omega (arith, shown_size s, flags_size _ _ c.self.invariant.2, c.self.inside.live.ok.0, c.requires)

pub returns : goal.returns
returns c =
    let s = shows c.self.view_is c.self.invariant in
    let less : c.args.id < length c.self.inside.live.items =
    omega (arith, shown_size s, flags_size _ _ c.self.invariant.2, c.requires) in
    c.index.ensures ∙ get_or_default _ _ _ false less ∙ flag_at _ _ c.self.invariant.2 c.args.id
    ∙ ap (λ (x : Counter). is_allocated x.metadata.status) (shown_at s c.args.id)
