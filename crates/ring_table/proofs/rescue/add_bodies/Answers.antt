use Rattle.std.proofs.Common.{◌≡◌, ℕ, List, length, refl, slice_index, sym, ◌∙◌, subst, arith}
use Rattle.std.specs.Slots.{slots_items}
use Rattle.atomic_table.proofs.Lists.{at_index}
use Rattle.ring_layout.specs.Layout.{head_index, tail_index, ring_words}
use Rattle.ring_table.{specs.Refilling.FillsTo, proofs.PictureWords.read_at, proofs.RefillLemmas.filled_up}
use Rattle.ring_table.proofs.rescue.add_bodies.Goals as goal

pub loop-at-init : goal.loop-at-init
loop-at-init c =
    let made : List ℕ = c.args.words.now.items in
    let ok : c.args.words.now.len ≡ length made = c.args.words.now.ok.0 in
    let wide : c.args.words.now.len ≡ ring_words c.args.capacity = c.requires.words in
    let tail : slice_index made (tail_index c.args.capacity) ≡ c.index-tail.result.now =
    read_at made (tail_index c.args.capacity) c.index-tail.result.now
    (at_index made (tail_index c.args.capacity) c.index-tail.result.now (omega arith) c.index-tail.ensures) in
    let head : slice_index made (head_index c.args.capacity) ≡ c.index-at.result.now =
    read_at made (head_index c.args.capacity) c.index-at.result.now
    (at_index made (head_index c.args.capacity) c.index-at.result.now (omega arith) c.index-at.ensures) in
    record {
      wide = refl;
      trailer = λ i far. refl;
      walks = λ F now may. (
        sym tail ∙ may.tail_is,
        subst (λ (s : ℕ). FillsTo c.args.capacity (slice_index made (head_index c.args.capacity))
            (slots_items c.args.closed.now.slots) F now s made) head may.begins,
      );
    }

pub add_body-at-requires-clause-walk : goal.add_body-at-requires-clause-walk
add_body-at-requires-clause-walk c =
    let k = c.requires.claims in
    let w = c.loop-at.invariant.walks k.0 k.1 k.2 in
    let ends = w.0 in
    let less = c.loop-at-test.true in
    (slice_index c.args.words.now.items (head_index c.args.capacity), k.0, k.1, w.1, omega arith)

pub loop-at-preserved : goal.loop-at-preserved
loop-at-preserved c = record {
  wide = c.add_body-at.ensures.words ∙ c.loop-at.invariant.wide;
  trailer = λ i far. c.add_body-at.ensures.trailer i far ∙ c.loop-at.invariant.trailer i far;
  walks = λ F now may.
      let w = c.loop-at.invariant.walks F now may in
      let ends = w.0 in
      let less = c.loop-at-test.true in (
        ends,
        c.add_body-at.ensures.walks (slice_index c.args.words.now.items (head_index c.args.capacity)) F now w.1
            (omega arith),
      );
}

pub returns-clause-filled : goal.returns-clause-filled
returns-clause-filled c = λ F now may.
    let w = c.loop-at.invariant.walks F now may in
    let ends = w.0 in
    let over_ = c.loop-at-test.false in
    filled_up c.args.capacity (slice_index c.args.words.now.items (head_index c.args.capacity))
    (slots_items c.args.closed.now.slots) F now c.loop-at.at c.loop-at.words.items (omega arith) w.1
