use Rattle.std.proofs.Common.{◌≤◌}
use Rattle.ring_rings.specs.Seats.{IsConsumerOf}
use Rattle.ring_service.specs.Conducting.{IsConductorOf}
use Rattle.ring_storm.specs.Storming.{HasCounters, KeepsReceivers, taken_by}
use Rattle.ring_storm.proofs.shared.Shared.run_conductor.Given as goal

abbrev pub invariant-loop : goal.invariant-loop
invariant-loop g l = record {
  conductor : IsConductorOf IsConsumerOf l.self.ring.now l.self.board.now l.self.values.now l.conductor;
  counters : HasCounters l.self.plan l.conductor;
  receivers : KeepsReceivers l.fn.conductor l.conductor;
  received : l.received ≤ taken_by l.conductor;
}
