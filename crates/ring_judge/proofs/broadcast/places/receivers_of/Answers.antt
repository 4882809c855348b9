use Rattle.std.proofs.Common.{◌≤◌, arith, take}
use Rattle.std.proofs.lemmas.List.Elements.{All-more, All-weaker}
use Rattle.ring_judge.{specs.Broadcast.IsOfReceiverBelow, proofs.PlaceLemmas.IsOfReceiverBelow-larger}
use Rattle.ring_judge.proofs.broadcast.places.receivers_of.Goals as goal

pub loop-line-preserved : goal.loop-line-preserved
loop-line-preserved c = let n = c.loop-line.count in let m = c.max-count.result in let k = c.loop-line.line-index in
    let up : n ≤ m = omega (arith, c.max-count.ensures) in
    let here : c.receivers_in.result ≤ m = omega (arith, c.max-count.ensures) in
    All-more (IsOfReceiverBelow m) c.args.run.now k _ c.loop-line-test.true
    (All-weaker (IsOfReceiverBelow n) (IsOfReceiverBelow m) (λ x below. IsOfReceiverBelow-larger n m x up below)
    (take k c.args.run.now) c.loop-line.invariant)
    (IsOfReceiverBelow-larger c.receivers_in.result m _ here c.receivers_in.ensures)
