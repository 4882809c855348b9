use Rattle.std.proofs.Common.{◌≡◌, ℕ, ◌%◌, ◌^◌, [], ◌∷◌, ◌++◌}
use Rattle.ring_service.specs.Asking.{producer_of, receiver_of}
use Rattle.ring_storm.specs.{Storming.IsClientSeat, Turns.claims_by, Turns.draws_by}
use Rattle.ring_storm.proofs.shared.Shared.send.Given as goal

abbrev pub invariant-loop : goal.invariant-loop
invariant-loop g l = record {
  seat : IsClientSeat l.self.ring.now (producer_of l.client);
  claims : claims_by l.client ≡ claims_by l.fn.client;
  drawn : (number : ℕ) × (draws_by l.client ≡ draws_by l.fn.client ++ number ∷ []) × (l.correlation ≡ number % 2 ^ 64);
  receiver : receiver_of l.client ≡ receiver_of l.fn.client;
}
