use Rattle.std.proofs.Common.{subst}
use Rattle.ring_table.proofs.LawLemmas.{none_open}
use Rattle.ring_rings.specs.Closing.{HandsOut}
use Rattle.ring_ends.specs.{Claiming.aborted_view, End.End, Ending.Last}
use Rattle.ring_scenario.{specs.Closing.TakesAllBut, proofs.EndLemmas.takes_all_but}
use Rattle.ring_scenario.proofs.ring.RunRing.close.Goals as goal

pub returns-in-Ok-finish : goal.returns-in-Ok-finish
returns-in-Ok-finish c =
    let taken = c.args.self.consumer.view.consumer.taken in
    let out = subst (λ (l : Last). HandsOut l.producer.capacity l.producer.start l.producer.view l.consumer.view
    c.in-Ok-finish.rest) c.in-Ok.ensures.1 c.in-Ok-finish.ensures.rest in
    let settled = none_open c.into_end.result.view.producer.claims c.into_end.ensures.none in
    let all = takes_all_but _ _ _ _ _ out settled.0 c.drain.result
    (λ h has closed. (c.drain.ensures.whole h has closed).0) in
    let aborted = subst (λ (q : End). TakesAllBut q.capacity q.start q.view.producer.claims taken c.drain.result)
    c.into_end.ensures.aborted all in
    let claims = (aborted_view c.args.self.producer.claims c.args.self.producer.end.view).producer.claims in
    subst (λ start. TakesAllBut c.args.self.producer.end.capacity start claims taken c.drain.result) c.args.self.start aborted
