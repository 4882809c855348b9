use Rattle.std.proofs.Common.{sym, subst}
use Rattle.ring_judge.specs.{declared.queue.QueueLine.QueueLine, Lists.lists_of, Queue.AnswersLine}
use Rattle.ring_judge.proofs.WaitingLemmas.{answers_empty}
use Rattle.ring_judge.proofs.queue.waiting.Waiting.answer.Goals as goal

pub returns-in-Got-clause-answer : goal.returns-in-Got-clause-answer
returns-in-Got-clause-answer c = let its = c.args.self.now in let left = c.take.new.self in
    subst (λ (line : QueueLine). AnswersLine (lists_of its.sent.items) its.taken.items its.left left.taken.items left.left
    line c.take.result) (sym c.in-Got.is) c.take.ensures.answer

pub returns-in-Empty-clause-answer : goal.returns-in-Empty-clause-answer
returns-in-Empty-clause-answer c = let its = c.args.self.now in
    answers_empty (lists_of its.sent.items) its.taken.items its.left c.args.line.now c.in-Empty.is
