use Rattle.std.proofs.Common.{ℕ, ap, get_or, sym, subst, ◌∙◌, ◌+◌}
use Rattle.std.proofs.lemmas.Bool.{MatchBool-at_true, MatchBool-at_false}
use Rattle.ring_judge.specs.{Ring.Allows, Ring.after, Judged.state_of}
use Rattle.ring_judge.proofs.StepLemmas.{AreRecorded, one_more, first_refused, past}
use Rattle.ring_judge.proofs.ring.judge.judge_ring.Goals as goal

pub returns-then-not-branch : goal.returns-then-not-branch
returns-then-not-branch c = let before = c.loop-at.invariant in let s = state_of c.loop-at.ring in
    let line = get_or c.args.run.now c.loop-at.at past in
    first_refused c.args.capacity c.args.start c.args.run.now c.loop-at.at past s c.loop-at-test.true before.recorded
    (subst (λ (C : ℕ). Allows C s line → ⊥) before.capacity
    (MatchBool-at_false _ _ c.if-not-branch.true c.in_ok-answer.ensures))

pub loop-at-preserved : goal.loop-at-preserved
loop-at-preserved c = let before = c.loop-at.invariant in let s = state_of c.loop-at.ring in
    let run = c.args.run.now in let k = c.loop-at.at in let line = get_or run k past in
    let step = MatchBool-at_true _ _ c.if-not-branch.false c.in_ok-answer.ensures in
    record {
      judged = step.judged;
      capacity = step.capacity ∙ before.capacity;
      recorded = subst (AreRecorded c.args.capacity c.args.start run (k + 1))
          (sym (step.state ∙ ap (λ C. after C s line) before.capacity))
          (one_more c.args.capacity c.args.start run k past s c.loop-at-test.true before.recorded
          (subst (λ (C : ℕ). Allows C s line) before.capacity step.allowed));
    }
