use Rattle.std.proofs.Common.{sym, subst}
use Rattle.ring_judge.specs.{declared.broadcast.BroadcastLine.BroadcastLine, Broadcast.AnswersLine}
use Rattle.ring_judge.proofs.broadcast.places.answer_line.Goals as goal

pub returns-in-Receiver-clause-answer : goal.returns-in-Receiver-clause-answer
returns-in-Receiver-clause-answer c = subst (λ (line : BroadcastLine). AnswersLine c.args.bodies.now c.args.places.now.items
    line c.answer_event.new.places.items c.answer_event.result) (sym c.in-Receiver.is) c.answer_event.ensures.answer
