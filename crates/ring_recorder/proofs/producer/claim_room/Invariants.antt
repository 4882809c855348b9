use Rattle.std.proofs.Common.{MatchOption}
use Rattle.ring_rings.specs.Seats.{IsOpenClaimOf, IsProducerOf, MayClaim}
use Rattle.ring_recorder.proofs.producer.claim_room.Given as goal

abbrev pub invariant-loop : goal.invariant-loop
invariant-loop g l = record {
  producer : IsProducerOf l.ring l.producer;
  sole : MayClaim g.K.Kind.many l.producer;
  held : MatchOption l.held (Unit {0}) (λ open'. IsOpenClaimOf l.ring l.producer open'.claim);
}
