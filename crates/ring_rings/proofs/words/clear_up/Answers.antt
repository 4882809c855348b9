use Rattle.std.proofs.Common.{◌≡◌, ℕ, ◌+◌, ◌*◌, ap, ◌∙◌, arith}
use Rattle.ring_layout.specs.Places.{index}
use Rattle.ring_rings.proofs.IndexLemmas.{index_on, index_in_four}
use Rattle.ring_rings.proofs.words.clear_up.Goals as goal

pub pass_word-requires-clause-target : goal.pass_word-requires-clause-target
pass_word-requires-clause-target c =
    let k : ℕ = c.loop-k.k in
    let four = index_in_four c.args.capacity c.args.head k 0 c.word_index-first.result c.word_index-first.ensures
    (omega (arith, c.loop-k-test.true, c.requires.inside, c.requires.passed, c.requires.whole)) in
    let same : c.args.head + 32 * k + 8 * 0 ≡ c.args.head + 32 * k = omega arith in
    omega (arith, four, ap (index c.args.capacity) same)

pub pass_word-requires-in-loop-k-clause-target : goal.pass_word-requires-in-loop-k-clause-target
pass_word-requires-in-loop-k-clause-target c =
    index_in_four c.args.capacity c.args.head c.loop-k.k 1 c.word_index-first.result c.word_index-first.ensures
    (omega (arith, c.loop-k-test.true, c.requires.inside, c.requires.passed, c.requires.whole))

pub pass_word-requires-in-loop-k-2-clause-target : goal.pass_word-requires-in-loop-k-2-clause-target
pass_word-requires-in-loop-k-2-clause-target c =
    index_in_four c.args.capacity c.args.head c.loop-k.k 2 c.word_index-first.result c.word_index-first.ensures
    (omega (arith, c.loop-k-test.true, c.requires.inside, c.requires.passed, c.requires.whole))

pub pass_word-requires-in-loop-k-3-clause-target : goal.pass_word-requires-in-loop-k-3-clause-target
pass_word-requires-in-loop-k-3-clause-target c =
    index_in_four c.args.capacity c.args.head c.loop-k.k 3 c.word_index-first.result c.word_index-first.ensures
    (omega (arith, c.loop-k-test.true, c.requires.inside, c.requires.passed, c.requires.whole))

pub pass_word-requires-in-loop-j-clause-target : goal.pass_word-requires-in-loop-j-clause-target
pass_word-requires-in-loop-j-clause-target c =
    ap (λ (n : ℕ). n + c.loop-j.j) c.word_index-first.ensures
    ∙ index_on c.args.capacity c.args.head c.loop-j.j
    (omega (arith, c.loop-j-test.true, c.requires.inside, c.requires.passed, c.requires.whole))
