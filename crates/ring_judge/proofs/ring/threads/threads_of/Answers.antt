use Rattle.std.proofs.Common.{◌<◌, ◌≤◌, ℕ, arith, take, subst, All, take_all}
use Rattle.std.proofs.lemmas.List.Elements.{All-more, All-weaker}
use Rattle.ring_judge.specs.Threads.{thread_of}
use Rattle.ring_judge.proofs.ring.threads.threads_of.Goals as goal

pub loop-line-preserved : goal.loop-line-preserved
loop-line-preserved c = let n = c.loop-line.count in let m = c.max-count.result in let k = c.loop-line.line-index in
    let up : n ≤ m = omega (arith, c.max-count.ensures) in
    let here : c.thread_of.result < m = omega (arith, c.max-count.ensures) in
    record {
      above = All-more (λ line. thread_of line < m) c.args.run.now k _ c.loop-line-test.true
          (All-weaker (λ line. thread_of line < n) (λ line. thread_of line < m)
          (λ line below. omega (arith, below, up)) (take k c.args.run.now) c.loop-line.invariant.above)
          (subst (λ (n : ℕ). n < m) c.thread_of.ensures.number here);
      some = omega (arith, here);
    }

pub returns-clause-above : goal.returns-clause-above
returns-clause-above c = subst (All (λ line. thread_of line < c.loop-line.count))
    (take_all c.loop-line.line-index c.args.run.now c.loop-line-test.false) c.loop-line.invariant.above
