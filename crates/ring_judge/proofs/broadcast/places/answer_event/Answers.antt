use Rattle.std.proofs.Common.{◌<◌, ◌≡◌, ◌∙◌, length, arith, subst}
use Rattle.std.proofs.lemmas.List.{get_or_default}
use Rattle.ring_judge.{specs.declared.broadcast.place.Place.Place, proofs.PlaceLemmas.event_answered}
use Rattle.ring_judge.specs.Broadcast.{AnswersEvent, anywhere, place_of}
use Rattle.ring_judge.proofs.broadcast.places.answer_event.Goals as goal

pub returns-clause-answer : goal.returns-clause-answer
returns-clause-answer c = let places = c.args.places.now.items in let r = c.args.receiver in
    let bodies = c.args.bodies.now in let after = c.answer.new.self in
    let lt : r < length places = omega (arith, c.args.places.now.ok.0) in
    let at : c.index_mut.result.now ≡ place_of places r =
    c.index_mut.ensures.value ∙ get_or_default places r c.index_mut.result.now anywhere lt in
    event_answered bodies places r c.args.event.now after c.answer.result lt
    (subst (λ (p : Place). AnswersEvent bodies p c.args.event.now after c.answer.result) at c.answer.ensures.answer)
