use Rattle.std.proofs.Common.{length}
use Rattle.ring_rings.proofs.WaitLemmas.{Tried}
use Rattle.ring_rings.proofs.producer.wait.Ring+ManyToOne+B.write.Given as goal

abbrev pub invariant-loop : goal.invariant-loop
invariant-loop g l = Tried l.self l.type_id (length l.body) l.initial.producer l.producer
