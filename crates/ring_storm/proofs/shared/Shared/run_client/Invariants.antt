use Rattle.std.proofs.Common.{◌≡◌, ◌+◌, ◌<◌, ◌≤◌, length}
use Rattle.ring_service.specs.Asking.{producer_of}
use Rattle.ring_storm.specs.{Storming.IsClientOf, Storming.history_of, Storming.sent_by, Turns.AreTurns, Turns.draws_by}
use Rattle.ring_storm.proofs.shared.Shared.run_client.Given as goal

abbrev pub invariant-loop-number : goal.invariant-loop-number
invariant-loop-number g l = record {
  client : IsClientOf l.self.ring.now l.self.board.now l.client;
  sent : sent_by (producer_of l.client.client) < l.number;
  drawn : length (draws_by l.client.client) < l.number;
  seen : l.client.seen + 1 ≡ l.number;
  index : l.client.index ≡ l.fn.client.index;
  turns : AreTurns l.client.index l.client.seen (history_of l.client);
  within : l.number ≤ l.self.plan.commands + 1;
}
