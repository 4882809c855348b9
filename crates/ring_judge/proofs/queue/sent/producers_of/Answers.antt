use Rattle.std.proofs.Common.{◌≤◌, arith, take}
use Rattle.std.proofs.lemmas.List.Elements.{All-more, All-weaker}
use Rattle.ring_judge.{specs.Queue.IsBelow, proofs.SentLemmas.IsBelow-larger}
use Rattle.ring_judge.proofs.queue.sent.producers_of.Goals as goal

pub loop-line-preserved : goal.loop-line-preserved
loop-line-preserved c = let n = c.loop-line.count in let m = c.max-count.result in let k = c.loop-line.line-index in
    let up : n ≤ m = omega (arith, c.max-count.ensures) in
    let here : c.producers_in.result ≤ m = omega (arith, c.max-count.ensures) in
    All-more (IsBelow m) c.args.run.now k _ c.loop-line-test.true
    (All-weaker (IsBelow n) (IsBelow m) (λ x below. IsBelow-larger n m x up below) (take k c.args.run.now)
    c.loop-line.invariant)
    (IsBelow-larger c.producers_in.result m _ here c.producers_in.ensures)
