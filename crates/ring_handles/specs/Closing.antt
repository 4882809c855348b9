-- How a conductor ends: c is the conductor, and the code is what is returned.
use Rattle.std.specs.Prelude.{◌≡◌, ℕ, ℤ, length, MatchOption}
use Rattle.ring_rings.specs.Seats.{capacity_of, claims_of, start_of}
use Rattle.ring_board.specs.Runs.{AreAllRuns}
use Rattle.ring_service.specs.Conducting.{manager_in, received_of, ring_view}
use Rattle.ring_service.specs.Finishing.{finish_code, joined_by, refusal_to, replies_of, IsFoldOfReceived}
use Rattle.ring_ends.specs.Conducting.{SeatedConductor}
use Rattle.ring_handles.specs.{Finishing.LeavesCommitted, Finishing.LeavesUnread}
use Rattle.ring_handles.specs.declared.conductor.ConductorSide.{ConductorSide}
use Rattle.ring_handles.specs.declared.code.TheConstants.{IN_USE}

-- This many commands were left. The ring's claims are those of the conductor's producer, if all shares are back;
-- otherwise those of lost producers are among them
abbrev pub Leaves : SeatedConductor → ℕ → Type 0
Leaves c left = let ring = c.shared.ring in MatchOption (refusal_to c.conductor c.producer)
    (LeavesUnread (capacity_of ring) (start_of ring) (claims_of c.producer) (received_of c.conductor) left)
    (λ _. LeavesCommitted (capacity_of ring) (start_of ring) (ring_view c.conductor) left)

-- This many commands were received, and this many were left. What was received makes of fresh counters, each message at
-- a moment, these counters, all value writes and the replies. What each receiver that was taken back copied are runs of
-- the replies
pub record EndsWith (c : SeatedConductor) (received left : ℕ) : Type 0 where
  pub received_is : received ≡ length (received_of c.conductor)
  pub unread : Leaves c left
  pub folded : ∥ IsFoldOfReceived c.conductor (manager_in c.conductor) ∥₁
  pub runs : AreAllRuns (replies_of c.conductor) (joined_by c.conductor)

-- another handle holds what it shares: that of a client or a receiver, if shares are missing
abbrev pub WhyNotFinished : ConductorSide → ℤ → Type 0
WhyNotFinished c code =
    MatchOption (refusal_to c.end.conductor c.end.producer) (code ≡ IN_USE) (λ fault. code ≡ finish_code fault)
