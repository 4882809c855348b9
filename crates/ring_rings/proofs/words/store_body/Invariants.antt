use Rattle.std.proofs.Common.{◌≡◌, ◌*◌, List, [], ◌∷◌, ◌++◌, length, take}
use Rattle.ring_table.specs.{declared.claim.StagedClaim.StagedClaim, Seats.IsSameSeat, Views.with_claims}
use Rattle.ring_rings.specs.Bodies.{put_at, IsFreshClaim}
use Rattle.ring_rings.proofs.words.store_body.Given as goal

abbrev pub invariant-loop-k : goal.invariant-loop-k
invariant-loop-k l = record {
  seat : IsSameSeat l.initial.seat l.seat;
  stored : (cs : List StagedClaim) (c : StagedClaim) → IsFreshClaim l.place (length l.body) cs c l.initial.seat.me.0
      → l.seat.me.0 ≡ with_claims (cs ++ put_at 0 (take (8 * l.k) l.body) c ∷ []) l.initial.seat.me.0;
}
