use Rattle.std.proofs.Common.{◌≡◌, ◌∙◌, sym, ap, arith}
use Rattle.ring_counters.specs.{Counter.Metadata, Counter.Allocated, Registry.allocated_in, Registry.is_allocated}
use Rattle.ring_counters.proofs.FlagLemmas.{flags_size, flags_stored}
use Rattle.ring_counters.proofs.ShownLemmas.{shows, begun_inside, begun_kept, begun_shown}
use Rattle.ring_counters.proofs.records.Records.begin.Goals as goal

pub index_mut-metadata-requires : goal.index_mut-metadata-requires
index_mut-metadata-requires c =
    let s = shows c.self.view_is c.self.invariant in
    omega (arith, begun_inside s _ c.requires.id, c.self.inside.metadata.ok.0)

pub index_mut-values-requires : goal.index_mut-values-requires
index_mut-values-requires c =
    let s = shows c.self.view_is c.self.invariant in
    omega (arith, begun_inside s _ c.requires.id, s.same, c.self.inside.values.ok.0)

pub index_mut-requires : goal.index_mut-requires
index_mut-requires c =
    let s = shows c.self.view_is c.self.invariant in
    omega (
      arith,
      begun_inside s _ c.requires.id,
      flags_size _ _ c.self.invariant.2,
      c.self.inside.live.ok.0,
    )

pub invariant_of-self : goal.invariant_of-self
invariant_of-self c =
    let s = shows c.self.view_is c.self.invariant in
    let status : c.fill.new.metadata.status ≡ Allocated = ap (λ (m : Metadata). m.status) c.fill.ensures.metadata in
    let kept = begun_kept s _ c.requires.id _ _ status in
    (kept.0, kept.1, flags_stored _ _ c.self.invariant.2 _ _ _ (sym (ap is_allocated status)))

pub returns : goal.returns
returns c =
    let s = shows c.self.view_is c.self.invariant in
    begun_shown s _ c.requires.id _ _
    ∙ (λ i. allocated_in c.args.self.now c.args.id
    record { metadata = c.fill.ensures.metadata i; values = c.fill.ensures.values i })
