use Rattle.std.proofs.Common.{◌≡◌, ℕ, List, true, ◌+◌, ◌-◌, ◌<◌, ◌≤◌, ◌∙◌, sym, ap, arith, length, get_or}
use Rattle.std.proofs.lemmas.List.{get_or_default}
use Rattle.ring_counters.specs.Counter.{Metadata, Reclaimed, deadline_of, unused_metadata}
use Rattle.ring_counters.specs.Registry.{is_allocated}
use Rattle.ring_counters.proofs.{FlagLemmas.flags_size, FlagLemmas.flags_stored, KeptLemmas.kept_room}
use Rattle.ring_counters.proofs.ShownLemmas.{shows, all_inside, allocated_below, room_left, reclaimed_shown, reclaimed_kept}
use Rattle.ring_counters.proofs.records.Records.reclaim.Goals.{After-push_back_reserved}
use Rattle.ring_counters.proofs.records.Records.reclaim.Goals as goal

pub index_mut-record-requires : goal.index_mut-record-requires
index_mut-record-requires c =
    let s = shows c.self.view_is c.self.invariant in
    omega (arith, allocated_below s _ c.requires.allocated, c.self.inside.metadata.ok.0)

pub index_mut-requires : goal.index_mut-requires
index_mut-requires c =
    let s = shows c.self.view_is c.self.invariant in
    omega (
      arith,
      allocated_below s _ c.requires.allocated,
      flags_size _ _ c.self.invariant.2,
      c.self.inside.live.ok.0,
    )

pub push_back_reserved-requires : goal.push_back_reserved-requires
push_back_reserved-requires c =
    let s = shows c.self.view_is c.self.invariant in
    omega (arith, room_left s _ c.requires.allocated, c.self.inside.freed.ok.0)

-- the record that is stored
reclaimed : (c : After-push_back_reserved)
    → c.reclaim.new.self
    ≡ record (get_or c.self.inside.metadata.items c.args.id unused_metadata) {
      status = Reclaimed (c.args.now + c.self.inside.reuse_ms);
    }
reclaimed c =
    let less = allocated_below (shows c.self.view_is c.self.invariant) _ c.requires.allocated in
    let was = c.index_mut-record.ensures.value ∙ get_or_default _ _ _ unused_metadata less in
    c.reclaim.ensures ∙ (λ i. record (was i) { status = Reclaimed (c.args.now + c.from.ensures i) })

pub invariant_of-self : goal.invariant_of-self
invariant_of-self c =
    let s = shows c.self.view_is c.self.invariant in
    let is = reclaimed (goal.at.invariant_of-self c).After-push_back_reserved in
    let freed : List ℕ = c.self.inside.freed.items in
    let last : ℕ = get_or freed (length freed - 1) 0 in
    let same : deadline_of (get_or c.deref.result.now last unused_metadata).status
    ≡ deadline_of (get_or c.self.inside.metadata.items last unused_metadata).status =
    ap (λ ms. deadline_of (get_or ms last unused_metadata).status) c.deref.ensures.value in
    let still : c.stays_in_order-self-inside.result ≡ true → 0 < length freed
    → (c.self.inside.in_order ≡ true)
    × (deadline_of (get_or c.self.inside.metadata.items last unused_metadata).status
    ≤ c.args.now + c.self.inside.reuse_ms) =
    λ o some. (let h = c.stays_in_order-self-inside.ensures.0 o
    some in (h.0, omega (arith, h.1, same, c.from.ensures))) in
    let kept = reclaimed_kept s _ c.requires.allocated _ _ c.args.now
    c.stays_in_order-self-inside.result still is c.push_back_reserved.ensures.items in (
      kept.0,
      kept_room _ _ _ _ _ c.push_back_reserved.ensures.capacity kept.1,
      flags_stored _ _ c.self.invariant.2 _ _ _
          (sym (ap (λ (m : Metadata). is_allocated m.status) is)),
    )

pub returns : goal.returns
returns c =
    let s = shows c.self.view_is c.self.invariant in
    let is = reclaimed (goal.at.returns c).After-push_back_reserved in
    reclaimed_shown s _ c.requires.allocated _ _ c.args.now is c.push_back_reserved.ensures.items

pub stays_in_order-self-inside-requires : goal.stays_in_order-self-inside-requires
stays_in_order-self-inside-requires c =
    let s = shows c.self.view_is c.self.invariant in
    λ k h. omega (arith, all_inside s k h, ap length c.deref.ensures.value)
