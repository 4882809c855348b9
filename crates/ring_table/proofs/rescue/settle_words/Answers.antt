use Rattle.std.proofs.Common.{◌≡◌, refl, ℕ, ◌+◌, ◌-◌, ◌%◌, ◌^◌, ◌<◌, List, length, set, slice_index, get_or-set_other, sym, ap, ◌∙◌, subst, arith, length-set}
use Rattle.std.proofs.lemmas.Nat.{mod_below}
use Rattle.atomic_table.proofs.Lists.{at_index}
use Rattle.ring_layout.specs.{Layout.tail_index, Layout.head_index, Layout.ring_words, Places.index, Places.rounded}
use Rattle.ring_table.specs.{Rescued.settled_word, Rescued.ShowsClaims, Staged.in_words, Staged.StagedClaim}
use Rattle.ring_table.{specs.Settling.Walks, proofs.PictureWords.read_at, proofs.StagedPlaces.capacity_aligned}
use Rattle.ring_table.proofs.SettleLemmas.{Steps, begins, settles, steps_on}
use Rattle.ring_table.proofs.rescue.settle_words.Goals as goal
use Rattle.ring_table.proofs.rescue.settle_words.Goals.{then-word-eq0, else-word-eq0+then-word-gt2147483648, else-word-eq0+else-word-gt2147483648}

pub loop-at-init : goal.loop-at-init
loop-at-init c =
    let made : List ℕ = c.args.words.now.items in
    let ok : c.args.words.now.len ≡ length made = c.args.words.now.ok.0 in
    let wide : c.args.words.now.len ≡ ring_words c.args.capacity = c.requires.words in
    let tail : slice_index made (tail_index c.args.capacity) ≡ c.index-tail.result.now =
    read_at made (tail_index c.args.capacity) c.index-tail.result.now
    (at_index made (tail_index c.args.capacity) c.index-tail.result.now (omega arith) c.index-tail.ensures) in
    let head : slice_index made (head_index c.args.capacity) ≡ c.index-at.result.now =
    read_at made (head_index c.args.capacity) c.index-at.result.now
    (at_index made (head_index c.args.capacity) c.index-at.result.now (omega arith) c.index-at.ensures) in
    record {
      wide = refl;
      trailer = λ i far. refl;
      walks = λ cs shows. (
        sym tail ∙ shows.tail_is,
        subst (λ (s : ℕ). Walks c.args.capacity (slice_index made (head_index c.args.capacity)) cs s made 0 0) head
            (begins c.args.capacity c.requires.capacity made cs shows),
      );
      claims_low = omega arith;
      silent_low = omega arith;
    }

-- what the turn of the loop does, over any claims that the words showed
pub turn : (c : goal.After-align8-at) (cs : List StagedClaim)
    → ShowsClaims in_words c.args.capacity c.args.words.now.items cs
    → Steps c.args.capacity (slice_index c.args.words.now.items (head_index c.args.capacity)) cs c.loop-at.at
    c.loop-at.words.items c.loop-at.claims c.loop-at.silent c.settle_word-word.result
    (rounded (settled_word c.settle_word-word.result % 2 ^ 32))
turn c cs shows =
    let k = c.loop-at.invariant.walks cs shows in
    let ends = k.0 in
    let less = c.loop-at-test.true in
    let long : length c.loop-at.words.items ≡ ring_words c.args.capacity =
    sym c.loop-at.words.ok.0 ∙ c.loop-at.invariant.wide ∙ c.requires.words in
    steps_on c.args.capacity (slice_index c.args.words.now.items (head_index c.args.capacity)) c.requires.capacity cs
    c.loop-at.at c.loop-at.words.items c.loop-at.claims c.loop-at.silent long (omega arith) c.settle_word-word.result
    c.settle_word-word.ensures.word k.1

goes : (c : goal.After-align8-at) → rounded (settled_word c.settle_word-word.result % 2 ^ 32) ≡ c.align8-at.result
goes c = ap (λ k. rounded (k % 2 ^ 32)) (sym c.settle_header.ensures) ∙ sym c.align8-at.ensures

pub loop-at-preserved : goal.loop-at-preserved
loop-at-preserved c =
    let C : ℕ = c.args.capacity in
    let words : List ℕ = c.args.words.now.items in
    let made : List ℕ = c.loop-at.words.items in
    let head : ℕ = slice_index words (head_index C) in
    let s : ℕ = c.loop-at.at in
    let w : ℕ = c.settle_word-word.result in
    let n : ℕ = rounded (settled_word w % 2 ^ 32) in
    let new : List ℕ = set made (index C s) (settled_word w) in
    let is : c.settle_word-word.new.words.items ≡ new = c.settle_word-word.ensures.words in
    let n_is : n ≡ c.align8-at.result = goes c in
    let least = c.requires.capacity.least in
    let c8 = capacity_aligned C c.requires.capacity in
    let low = mod_below s C (omega arith) in
    let first = turn c c.requires.claims.0 c.requires.claims.1 in
    let some = first.some in
    let claims_low = c.loop-at.invariant.claims_low in
    let silent_low = c.loop-at.invariant.silent_low in
    let fit : (cs : List StagedClaim) (a b : ℕ) → c.if-word-eq0.claims ≡ a → c.if-word-eq0.silent ≡ b
    → Walks C head cs (s + n) new a b
    → Walks C head cs (s + c.align8-at.result) c.settle_word-word.new.words.items c.if-word-eq0.claims
    c.if-word-eq0.silent =
    λ cs a b a_is b_is walks. subst (λ (z : ℕ × List ℕ × ℕ × ℕ). Walks C head cs (s + z.0) z.1 z.2 z.3)
    (λ i. (n_is i, sym is i, sym a_is i, sym b_is i)) walks in
    record {
      wide = c.settle_word-word.new.words.ok.0 ∙ ap length is ∙ length-set made (index C s) (settled_word w)
          ∙ sym c.loop-at.words.ok.0 ∙ c.loop-at.invariant.wide;
      trailer = λ i far. ap (λ l. slice_index l i) is
          ∙ get_or-set_other made (index C s) i (settled_word w) 0 (λ same. omega arith)
          ∙ c.loop-at.invariant.trailer i far;
      walks = λ cs shows.
          let k = c.loop-at.invariant.walks cs shows in
          let t = turn c cs shows in (
            k.0,
            elim c.if-word-eq0.branch [
              | then-word-eq0 b ↦ fit cs c.loop-at.claims (c.loop-at.silent + 8) b.claims-is b.silent-is
                  (t.none b.if-word-eq0.true)
              | else-word-eq0+then-word-gt2147483648 b ↦ fit cs (c.loop-at.claims + 1) c.loop-at.silent b.claims-is
                  b.silent-is (t.opened b.if-word-eq0.false b.if-word-gt2147483648.true)
              | else-word-eq0+else-word-gt2147483648 b ↦ fit cs c.loop-at.claims c.loop-at.silent b.claims-is
                  b.silent-is (t.other b.if-word-eq0.false b.if-word-gt2147483648.false)
            ],
          );
      claims_low = elim c.if-word-eq0.branch [
        | then-word-eq0 b ↦ let is_ = b.claims-is in omega arith
        | else-word-eq0+then-word-gt2147483648 b ↦ let is_ = b.claims-is in omega arith
        | else-word-eq0+else-word-gt2147483648 b ↦ let is_ = b.claims-is in omega arith
      ];
      silent_low = elim c.if-word-eq0.branch [
        | then-word-eq0 b ↦ let is_ = b.silent-is in omega arith
        | else-word-eq0+then-word-gt2147483648 b ↦ let is_ = b.silent-is in omega arith
        | else-word-eq0+else-word-gt2147483648 b ↦ let is_ = b.silent-is in omega arith
      ];
    }

pub loop-at-smaller : goal.loop-at-smaller
loop-at-smaller c =
    let first = turn c c.requires.claims.0 c.requires.claims.1 in
    let some = first.some in
    let n_is = goes c in
    let less = c.loop-at-test.true in
    let done : c.index-tail.result.now - (c.loop-at.at + c.align8-at.result) < c.index-tail.result.now - c.loop-at.at =
    omega arith in
    done

pub returns-clause-settles : goal.returns-clause-settles
returns-clause-settles c = λ cs shows.
    let w = c.loop-at.invariant.walks cs shows in
    let ends = w.0 in
    let over_ = c.loop-at-test.false in
    settles c.args.capacity (slice_index c.args.words.now.items (head_index c.args.capacity)) cs c.loop-at.at
    c.loop-at.words.items c.loop-at.claims c.loop-at.silent (omega arith) w.1
