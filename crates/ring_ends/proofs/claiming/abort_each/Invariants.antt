use Rattle.std.proofs.Common.{◌≡◌, length}
use Rattle.ring_ends.specs.{Claims.claims_in, Claiming.aborted_view, Claiming.AreAllOpen, End.AreOfOneRing}
use Rattle.ring_ends.proofs.claiming.abort_each.Given as goal

-- the claims that are left are open, and once they are aborted too the producer has the view that it has in the end
abbrev pub invariant-loop-claim : goal.invariant-loop-claim
invariant-loop-claim g l = record {
  one_ring : AreOfOneRing l.initial.end l.end;
  held : AreAllOpen l.end.capacity l.end.view (claims_in l.claims);
  view : aborted_view (claims_in l.claims) l.end.view ≡ aborted_view (claims_in l.initial.claims) l.initial.end.view;
}

abbrev pub decreases-loop-claim : goal.decreases-loop-claim
decreases-loop-claim g l = length (claims_in l.claims)
