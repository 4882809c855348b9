use Rattle.std.proofs.Common.{◌≢◌, sym, ◌∙◌, arith, below_more, get_or-set_other, get_or-set_same}
use Rattle.ring_table.proofs.PictureWords.{read_at}
use Rattle.ring_table.proofs.picture.copy_words.Goals as goal

pub loop-i-preserved : goal.loop-i-preserved
loop-i-preserved c =
    let len = c.len-i-end.ensures in
    record {
      len = c.loop-i.invariant.len;
      copied = below_more _ _
          (λ k h. let ne : k ≢ c.loop-i.i = omega arith in get_or-set_other c.loop-i.words.items c.loop-i.i k
          c.word.result 0 ne ∙ c.loop-i.invariant.copied k h)
          (get_or-set_same c.loop-i.words.items c.loop-i.i c.word.result 0 (omega arith)
          ∙ sym (read_at _ c.loop-i.i c.word.result c.word.ensures));
    }
