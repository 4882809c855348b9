-- What a ring that was closed says of its ends.
use Rattle.std.proofs.Common.{subst, sym}
use Rattle.ring_rings.specs.Ring.{IsWhole}
use Rattle.ring_ends.specs.{End.received, End.sent, End.End, Ending.Last}
use Rattle.ring_uses.specs.{declared.closing.Closed.Closed, Closing.IsClosedWith, Closing.IsWholeIn}

pub whole_in : (p q : End) (closed : Closed Last) → IsClosedWith p q closed → IsWholeIn closed
whole_in p q closed it =
    subst (λ (x : Last). IsWhole (sent x.producer) (received x.consumer) closed.rest) (sym it.ends) it.whole
