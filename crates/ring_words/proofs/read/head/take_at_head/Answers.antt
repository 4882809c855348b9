use Rattle.std.proofs.Common.{rules, ◌≡◌, ℕ, ◌+◌, slice_set, arith, subst}
use Rattle.ring_words.specs.Ring.{Ring, ring, head_of}
use Rattle.ring_layout.specs.Layout.{head_index}
use Rattle.ring_words.proofs.TakeLemmas.{Cleared, Taken, taken_by}
use Rattle.ring_words.proofs.read.head.take_at_head.Goals as goal

pub returns : goal.returns
returns c =
    let r : Ring = ring c.args.capacity c.args.words.now in
    let n : ℕ = c.next_multiple_of-span.result in
    let e = rw (c.word_index.ensures, c.requires.ring.head) at c.clear.ensures in
    let cleared : Cleared c.args.capacity (head_of r) n c.args.words.now c.clear.new.words =
    record { length = c.clear.auto.words; inside = e.inside; below = e.below; above = e.above } in
    let all = taken_by r c.args.settled n c.clear.new.words c.requires.ring.ring c.requires.seen
    (omega (arith, c.next_multiple_of-span.ensures.value)) cleared in
    let next : head_of r + n ≡ c.args.head + c.from.result = omega (arith, c.requires.ring.head, c.from.ensures) in
    let t = subst (λ (k : ℕ). Taken r c.args.settled
    (ring c.args.capacity (slice_set c.clear.new.words (head_index c.args.capacity) k))) next all in
    record { ring = record { ring = t.ring; head = search rules }; moves = t.moves; on = t.on; leaves = t.leaves }
