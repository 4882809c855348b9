-- A producer with up to two open claims.
use Rattle.std.specs.Prelude.{Option, IfSome}
use Rattle.ring_words.specs.Open.{ClaimAt}
use Rattle.ring_rings.specs.declared.{ring.Producer.Producer, ring.Ring.Ring, bodies.Bodies.Ghosts}
use Rattle.ring_rings.specs.Seats.{IsOpenClaimOf, IsProducerOf}

-- the producer is the ring's, and these claims are open ones of its own
pub record Holds {K B : Type 0} {G : Ghosts B} (ring : Ring K B G) (p : Producer) (a b : Option ClaimAt)
    : Type 0 where
  pub producer : IsProducerOf ring p
  pub first : IfSome a (IsOpenClaimOf ring p)
  pub second : IfSome b (IsOpenClaimOf ring p)
