use Rattle.std.proofs.Common.{arith}
use Rattle.ring_judge.proofs.SentLemmas.{count_more, past}
use Rattle.ring_judge.proofs.queue.sent.sent_count.Goals as goal

pub loop-line-preserved : goal.loop-line-preserved
loop-line-preserved c = let k = c.loop-line.line-index in let run = c.args.run.now in
    let more = count_more run k past c.loop-line-test.true in let says = c.sent_count_in-count.ensures in
    let before = c.loop-line.invariant in
    record {
      counted = omega (arith, more, says.counted, before.counted);
      few = omega (arith, says.few, before.few);
    }
