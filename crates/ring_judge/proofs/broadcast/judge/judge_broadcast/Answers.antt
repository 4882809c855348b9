use Rattle.std.proofs.Common.{ℕ, List, length, get_or, sym, subst, ◌∙◌}
use Rattle.std.proofs.lemmas.Bool.{MatchBool-at_true, MatchBool-at_false}
use Rattle.ring_judge.specs.declared.broadcast.BroadcastLine.{BroadcastLine, TheVariants.Transmitted}
use Rattle.ring_judge.specs.Broadcast.{transmitted_in, AnswersLine, AreWithin}
use Rattle.ring_judge.proofs.ReadLemmas.{none_read, one_more, explained_all, first_unexplained}
use Rattle.ring_judge.proofs.broadcast.judge.judge_broadcast.Goals as goal

-- the line at an index, and past the end
abbrev line_at : List BroadcastLine → ℕ → BroadcastLine
line_at run k = get_or run k (Transmitted 0)

pub loop-at-init : goal.loop-at-init
loop-at-init c = record {
  same = c.in_ok-places.ensures.length;
  read = none_read c.args.run.now _ c.in_ok-places.ensures.places;
}

pub answer_line-requires-clause-within : goal.answer_line-requires-clause-within
answer_line-requires-clause-within c = let bodies = c.as_slice.ensures.value ∙ c.in_ok-bodies.ensures in
    subst (λ (b : List ℕ). AreWithin (length b) c.loop-at.places.items) (sym bodies) c.loop-at.invariant.read.within

pub returns-then-not-answer_line : goal.returns-then-not-answer_line
returns-then-not-answer_line c = let run = c.args.run.now in let k = c.loop-at.at in
    let places = c.loop-at.places.items in let after = c.answer_line.new.places.items in
    let bodies = c.as_slice.ensures.value ∙ c.in_ok-bodies.ensures in
    let answer : AnswersLine (transmitted_in run) places (line_at run k) after c.answer_line.result =
    subst (λ (b : List ℕ). AnswersLine b places (line_at run k) after c.answer_line.result) bodies
    c.answer_line.ensures.answer in
    let ends = MatchBool-at_false _ _ c.if-not-answer_line.true answer in
    first_unexplained run k (Transmitted 0) places ends.0 c.loop-at-test.true c.loop-at.invariant.read ends.1

pub loop-at-preserved : goal.loop-at-preserved
loop-at-preserved c = let run = c.args.run.now in let k = c.loop-at.at in
    let places = c.loop-at.places.items in let after = c.answer_line.new.places.items in
    let bodies = c.as_slice.ensures.value ∙ c.in_ok-bodies.ensures in
    let answer : AnswersLine (transmitted_in run) places (line_at run k) after c.answer_line.result =
    subst (λ (b : List ℕ). AnswersLine b places (line_at run k) after c.answer_line.result) bodies
    c.answer_line.ensures.answer in
    let leads = MatchBool-at_true _ _ c.if-not-answer_line.false answer in
    let within : AreWithin (length (transmitted_in run)) after =
    subst (λ (b : List ℕ). AreWithin (length b) after) bodies c.answer_line.ensures.within in
    record {
      same = c.answer_line.ensures.length ∙ c.loop-at.invariant.same;
      read = one_more run k (Transmitted 0) places after c.loop-at-test.true c.loop-at.invariant.read within leads;
    }

pub returns : goal.returns
returns c = explained_all c.args.run.now c.loop-at.at c.loop-at.places.items c.loop-at-test.false
    c.loop-at.invariant.read
