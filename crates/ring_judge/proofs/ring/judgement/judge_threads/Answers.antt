use Rattle.std.proofs.Common.{ap, subst, ◌∙◌}
use Rattle.ring_judge.{specs.Ring.JudgesRing, specs.Histories.calls, proofs.OrderLemmas.judges_threads}
use Rattle.ring_judge.proofs.ring.judgement.judge_threads.Goals as goal

pub returns : goal.returns
returns c = let its = c.in_ok-lines.ensures in let verdict = c.in_ok-verdict.verdict in record {
  lines = its.threads;
  verdict = judges_threads c.args.capacity c.args.start c.in_ok-lines.lines.items verdict its.ends its.best
      (subst (λ ls. JudgesRing c.args.capacity c.args.start ls verdict)
      (c.as_slice-2.ensures.value ∙ (c.in_ok-calls.ensures ∙ ap calls c.as_slice.ensures.value))
      c.in_ok-verdict.ensures);
}
