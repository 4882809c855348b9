use Rattle.ring_rings.proofs.WaitLemmas.{Tried}
use Rattle.ring_rings.proofs.producer.wait.Ring+ManyToOne+B.claim.Given as goal

abbrev pub invariant-loop : goal.invariant-loop
invariant-loop g l = Tried l.self l.type_id l.len l.initial.producer l.producer
