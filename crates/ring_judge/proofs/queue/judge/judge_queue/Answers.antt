use Rattle.std.proofs.Common.{Vec, Global, sym, subst, ◌∙◌}
use Rattle.std.proofs.lemmas.Bool.{MatchBool-at_true, MatchBool-at_false}
use Rattle.ring_judge.specs.{declared.message.Message.Message, Lists.lists_of, Queue.AreWaiting}
use Rattle.ring_judge.proofs.FollowLemmas.{one_more, explained_all, first_unexplained}
use Rattle.ring_judge.proofs.queue.judge.judge_queue.Goals as goal

pub returns-then-not-answer : goal.returns-then-not-answer
returns-then-not-answer c = let left = c.loop-at.invariant.left in
    first_unexplained c.args.run.now c.loop-at.at _ left.0 c.loop-at-test.true left.2
    (MatchBool-at_false _ _ c.if-not-answer.true (c.answer.ensures.answer left.0 left.1))

pub loop-at-preserved : goal.loop-at-preserved
loop-at-preserved c = let left = c.loop-at.invariant.left in let after = c.answer.new.self in
    let next = MatchBool-at_true _ _ c.if-not-answer.false (c.answer.ensures.answer left.0 left.1) in record {
      length = c.answer.ensures.length ∙ c.loop-at.invariant.length;
      left = (
        next.0,
        subst (λ (sent : Vec (Vec Message Global) Global). AreWaiting (lists_of sent.items) after.taken.items after.left
            next.0) (sym c.answer.ensures.sent) next.1,
        one_more c.args.run.now c.loop-at.at _ left.0 next.0 c.loop-at-test.true left.2 next.2,
      );
    }

pub returns : goal.returns
returns c = let left = c.loop-at.invariant.left in
    explained_all c.args.run.now c.loop-at.at left.0 c.loop-at-test.false left.2
