use Rattle.std.proofs.Common.{◌∙◌, arith}
use Rattle.ring_words.proofs.BodyLemmas.{word_copied}
use Rattle.ring_words.proofs.words.load_body.Goals as goal

pub loop-k-preserved : goal.loop-k-preserved
loop-k-preserved c =
    let more = word_copied c.args.words.now c.loop-k.body c.put_word.new.bytes c.args.at c.loop-k.k
    (omega arith) c.put_word.ensures c.loop-k.invariant.1 in
    (more.0 ∙ c.loop-k.invariant.0, λ j lt. more.1 j (omega arith))
