use Rattle.std.proofs.Common.{◌≡◌, ℕ, ◌+◌, ◌-◌, ◌/◌, ◌<◌, List, length, take, drop, refl, arith, ap, sym, ◌∙◌, subst, get_or-set_other, length-drop, length-take-le}
use Rattle.std.proofs.Math.Seq.{take-length}
use Rattle.ring_layout.specs.{History.overwritten, Bytes.HoldsBytes}
use Rattle.ring_words.proofs.PutLemmas.{overwritten_none, holds_more}
use Rattle.ring_words.proofs.words.overwrite_body.Goals as goal

pub loop-done-init : goal.loop-done-init
loop-done-init c = record {
  most = omega arith;
  inside = λ body small le held. subst (λ (l : List ℕ). HoldsBytes c.args.words.now c.args.at l)
      (sym (overwritten_none c.args.offset (take 0 c.args.bytes.now) body (omega arith) refl)) held;
  below = λ i lt. refl;
  above = λ i le. refl;
}

pub loop-done-preserved : goal.loop-done-preserved
loop-done-preserved c =
    let inv = c.loop-done.invariant in
    let n : ℕ = c.min-count.result in
    let done : ℕ = c.loop-done.done in
    let at : ℕ = c.args.at + (c.args.offset + done) / 8 in
    let rest : List ℕ = drop done c.args.bytes.now in
    let left : length rest ≡ length c.args.bytes.now - done = length-drop done c.args.bytes.now in
    let count : done + n - done ≡ n = omega arith in
    let is : take (done + n - done) rest ≡ take n rest = ap (λ m. take m rest) count in
    let size : length (take (done + n - done) rest) ≡ n =
    ap length is ∙ length-take-le n rest (omega (arith, left, c.min-count.ensures)) in
    let room : at < length c.loop-done.words =
    omega (arith, c.requires, c.loop-done.auto.words, c.loop-done-test.true) in
    record {
      most = omega (arith, c.min-count.ensures);
      inside = λ body small le held.
          holds_more c.args.at c.args.offset done n c.put_bytes_word.result c.args.bytes.now _ c.loop-done.words body
          (record { old = small; new = λ j. omega (arith, c.type_inv.bytes j); fits = le })
          (record {
            some = omega (arith, c.min-count.ensures, c.loop-done-test.true);
            more = omega (arith, c.min-count.ensures);
            size = size;
            bytes_are = is;
            in_word = omega (arith, c.min-count.ensures);
          }) room c.put_bytes_word.ensures (inv.inside body small le held);
      below = λ i lt. get_or-set_other c.loop-done.words at i c.put_bytes_word.result 0 (λ e. omega (arith, e))
          ∙ inv.below i lt;
      above = λ i le. get_or-set_other c.loop-done.words at i c.put_bytes_word.result 0
          (λ e. omega (arith, e, c.loop-done-test.true)) ∙ inv.above i le;
    }

pub returns-clause-inside : goal.returns-clause-inside
returns-clause-inside c = λ body small le held.
    let done : c.loop-done.done ≡ length c.args.bytes.now =
    omega (arith, c.loop-done.invariant.most, c.loop-done-test.false) in
    let whole : take c.loop-done.done c.args.bytes.now ≡ c.args.bytes.now =
    ap (λ n. take n c.args.bytes.now) done ∙ take-length c.args.bytes.now in
    subst (λ (l : List ℕ). HoldsBytes c.loop-done.words c.args.at (overwritten c.args.offset l body)) whole
    (c.loop-done.invariant.inside body small le held)
