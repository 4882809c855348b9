use Rattle.std.proofs.Common.{◌≡◌, ◌∙◌, sym, ap, arith, set}
use Rattle.ring_counters.specs.{Counter.Metadata, Counter.Allocated, Registry.Registry, Registry.is_allocated}
use Rattle.ring_counters.proofs.{FlagLemmas.flags_size, FlagLemmas.flags_stored, KeptLemmas.kept_room}
use Rattle.ring_counters.proofs.ShownLemmas.{shows, shown_size, reused_inside, reused_kept, stored}
use Rattle.ring_counters.proofs.records.Records.reuse.Goals as goal

pub index_mut-metadata-requires : goal.index_mut-metadata-requires
index_mut-metadata-requires c =
    let s = shows c.self.view_is c.self.invariant in
    let found = c.take_freed-id.ensures in
    omega (arith, reused_inside s _ _ _ c.requires.at found.id found.items, c.self.inside.metadata.ok.0)

pub index_mut-values-requires : goal.index_mut-values-requires
index_mut-values-requires c =
    let s = shows c.self.view_is c.self.invariant in
    let found = c.take_freed-id.ensures in
    omega (
      arith,
      reused_inside s _ _ _ c.requires.at found.id found.items,
      s.same,
      c.self.inside.values.ok.0,
    )

pub index_mut-requires : goal.index_mut-requires
index_mut-requires c =
    let s = shows c.self.view_is c.self.invariant in
    let found = c.take_freed-id.ensures in
    omega (
      arith,
      reused_inside s _ _ _ c.requires.at found.id found.items,
      flags_size _ _
          c.self.invariant.2,
      c.self.inside.live.ok.0,
    )

pub invariant_of-self : goal.invariant_of-self
invariant_of-self c =
    let s = shows c.self.view_is c.self.invariant in
    let found = c.take_freed-id.ensures in
    let status : c.fill.new.metadata.status ≡ Allocated = ap (λ (m : Metadata). m.status) c.fill.ensures.metadata in
    let kept = reused_kept s _ _ _ c.requires.at found.id found.items _ _ status in (
      kept.0,
      kept_room _ _ _ _ _ found.capacity kept.1,
      flags_stored _ _ c.self.invariant.2 _ _ _
          (sym (ap is_allocated status)),
    )

pub returns-clause-changes : goal.returns-clause-changes
returns-clause-changes c =
    let s = shows c.self.view_is c.self.invariant in
    ap (λ (r : Registry). r.counters) (stored s _ _ _ c.take_freed-id.new.freed.items)
    ∙ (λ i. set c.args.self.now.counters c.take_freed-id.result
    record { metadata = c.fill.ensures.metadata i; values = c.fill.ensures.values i })

pub returns-clause-inside : goal.returns-clause-inside
returns-clause-inside c =
    let s = shows c.self.view_is c.self.invariant in
    let found = c.take_freed-id.ensures in
    omega (
      arith,
      reused_inside s _ _ _ c.requires.at found.id found.items,
      shown_size s,
    )
