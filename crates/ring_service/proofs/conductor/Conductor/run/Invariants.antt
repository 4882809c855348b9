use Rattle.std.proofs.Common.{◌≡◌, ◌≤◌, ◌*◌, drop}
use Rattle.ring_service.specs.Conducting.{IsConductorOf, ledger_of, ring_view, value_shares_of}
use Rattle.ring_service.proofs.RunLemmas.{Leads}
use Rattle.ring_service.proofs.conductor.Conductor.run.Given as goal

abbrev pub invariant-loop-cycle : goal.invariant-loop-cycle
invariant-loop-cycle g l = record {
  conductor : IsConductorOf g.R.CommandSource.is_consumer l.ring l.board l.values l.self;
  leads : Leads l.cycles (ring_view l.fn.self) (ledger_of l.fn.self) (drop l.cycle-index l.cycles) l.stopped l.messages
      (ring_view l.self) (ledger_of l.self);
  value_shares : value_shares_of l.self ≡ value_shares_of l.fn.self;
  room : 8 * l.messages ≤ (ledger_of l.self).board.at;
}
