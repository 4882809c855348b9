use Rattle.std.proofs.lemmas.Bool.{iff_false}
use Rattle.ring_judge.proofs.EventLemmas.{copied_leads, copied_elsewhere, copied_otherwise}
use Rattle.ring_judge.proofs.broadcast.place.Place.take.Goals as goal

pub returns-then-not-can_be_at-clause-answer : goal.returns-then-not-can_be_at-clause-answer
returns-then-not-can_be_at-clause-answer c = copied_elsewhere c.args.bodies.now c.args.self.now c.args.copy.now
    (iff_false c.can_be_at.ensures c.if-not-can_be_at.true)

pub returns-then-not-is_body_of-clause-answer : goal.returns-then-not-is_body_of-clause-answer
returns-then-not-is_body_of-clause-answer c = copied_otherwise c.args.bodies.now c.args.self.now c.args.copy.now
    (iff_false c.is_body_of.ensures c.if-not-is_body_of.true)

pub returns-clause-answer : goal.returns-clause-answer
returns-clause-answer c = copied_leads c.args.bodies.now c.args.self.now c.args.copy.now
    (c.can_be_at.ensures.0 c.if-not-can_be_at.false) (c.is_body_of.ensures.0 c.if-not-is_body_of.false)
