use Rattle.std.proofs.Common.{sym, subst}
use Rattle.ring_judge.specs.{declared.broadcast.ReceiverEvent.ReceiverEvent, Broadcast.AnswersEvent}
use Rattle.ring_judge.proofs.broadcast.place.Place.answer.Goals as goal

pub returns-in-Copied-clause-answer : goal.returns-in-Copied-clause-answer
returns-in-Copied-clause-answer c = subst (λ (event : ReceiverEvent). AnswersEvent c.args.bodies.now c.args.self.now event
    c.take.new.self c.take.result) (sym c.in-Copied.is) c.take.ensures.answer

pub returns-in-Lapped-clause-answer : goal.returns-in-Lapped-clause-answer
returns-in-Lapped-clause-answer c = subst (λ (event : ReceiverEvent). AnswersEvent c.args.bodies.now c.args.self.now event
    c.lap.new.self c.lap.result) (sym c.in-Lapped.is) c.lap.ensures.answer

pub returns-in-Empty-clause-answer : goal.returns-in-Empty-clause-answer
returns-in-Empty-clause-answer c = subst (λ (event : ReceiverEvent). AnswersEvent c.args.bodies.now c.args.self.now event
    c.end.new.self c.end.result) (sym c.in-Empty.is) c.end.ensures.answer
