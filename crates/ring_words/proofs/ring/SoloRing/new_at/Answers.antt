use Rattle.std.proofs.Common.{rules, ◌≡◌, ℕ, ◌/◌, ◌+◌, List, slice_set, replicate, subst, sym}
use Rattle.ring_words.{specs.Ring.ring, specs.Ring.IsRing, proofs.FreshLemmas.is_ring_fresh}
use Rattle.ring_layout.specs.Layout.{tail_index, head_cache_index, head_index}
use Rattle.ring_words.proofs.ring.SoloRing.new_at.Goals as goal

pub invariant_of-result : goal.invariant_of-result
invariant_of-result c =
    let C : ℕ = c.args.capacity in
    let start : ℕ = c.args.start in
    let items : c.in_ok-words.words.items ≡ replicate (C / 8 + 96) 0 = search rules in
    let lawful = c.in_ok-check_ring.ensures.lawful in
    let at = c.in_ok-check_ring.ensures.start in (
      subst (λ (ws : List ℕ). IsRing
          (ring C (slice_set (slice_set (slice_set ws (tail_index C) start) (head_cache_index C) start)
          (head_index C) start)))
          (sym items)
          (is_ring_fresh C start lawful at.0 at.1),
      search rules,
    )
