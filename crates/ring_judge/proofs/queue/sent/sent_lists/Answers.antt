use Rattle.std.proofs.Common.{◌++◌, ◌∷◌, [], get_or, arith, sym, ◌∙◌, ap}
use Rattle.ring_judge.{proofs.SentLemmas.part_more, proofs.SentLemmas.past, specs.Queue.part_of, specs.Queue.sent_in}
use Rattle.ring_judge.proofs.queue.sent.sent_lists.Goals as goal

pub loop-line-preserved : goal.loop-line-preserved
loop-line-preserved c = let its = c.in_ok-append_sent.ensures in
    let k = c.loop-line.line-index in let run = c.args.run.now in record {
      length = its.length ∙ c.loop-line.invariant.length;
      lists = λ p lt. its.lists p (omega (arith, c.loop-line.invariant.length))
          ∙ (ap (λ l. l ++ part_of p (sent_in (get_or run k past ∷ []))) (c.loop-line.invariant.lists p lt)
          ∙ sym (part_more p run k past c.loop-line-test.true));
    }
