use Rattle.std.proofs.Common.{◌≡◌, ℕ, List, slice_index, sym, ◌∙◌, subst, arith}
use Rattle.atomic_table.proofs.Lists.{at_index}
use Rattle.ring_layout.specs.Layout.{tail_index, head_index}
use Rattle.ring_table.specs.{Owners.all_of, Staged.staged_end, Walk.Walked}
use Rattle.ring_table.proofs.{PictureWords.read_at, WalkLemmas.begins, WalkLemmas.stands_below}
use Rattle.ring_table.proofs.picture.show_bodies.Goals as goal

pub loop-at-init : goal.loop-at-init
loop-at-init c =
    let made : List ℕ = c.args.words.now.items in
    let wide = c.requires.words in
    let tail : slice_index made (tail_index c.args.capacity) ≡ c.index-tail.result.now =
    read_at made (tail_index c.args.capacity) c.index-tail.result.now
    (at_index made (tail_index c.args.capacity) c.index-tail.result.now (omega arith) c.index-tail.ensures) in
    let head : slice_index made (head_index c.args.capacity) ≡ c.index-at.result.now =
    read_at made (head_index c.args.capacity) c.index-at.result.now
    (at_index made (head_index c.args.capacity) c.index-at.result.now (omega arith) c.index-at.ensures) in
    record {
      wide = wide;
      walks = λ t. (
        sym tail ∙ t.memory.tail_is,
        subst (λ (z : ℕ). Walked c.args.capacity t z made) (sym t.memory.head_is ∙ head)
            (begins c.args.capacity _ _ t),
      );
    }

pub show_record-at-requires-clause-walk : goal.show_record-at-requires-clause-walk
show_record-at-requires-clause-walk c =
    let t = c.requires.parts in
    let w = c.loop-at.invariant.walks t in
    (c.args.words.now.items, t, w.1, omega arith)

pub loop-at-preserved : goal.loop-at-preserved
loop-at-preserved c = record {
  wide = c.show_record-at.ensures.words ∙ c.loop-at.invariant.wide;
  walks = λ t.
      let w = c.loop-at.invariant.walks t in
      let ends = w.0 in
      (ends, c.show_record-at.ensures.walks c.args.words.now.items t w.1 (omega arith));
}

pub returns : goal.returns
returns c = λ t.
    let w = c.loop-at.invariant.walks t in
    let below = stands_below c.args.capacity c.loop-at.at t.start (all_of t.hist) t.memory.placed w.1.stands in
    let is : c.loop-at.at ≡ staged_end t.start (all_of t.hist) = omega arith in
    subst (λ (s : ℕ). Walked c.args.capacity t s c.loop-at.words.items) is w.1
