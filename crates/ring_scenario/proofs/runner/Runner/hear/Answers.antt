use Rattle.std.proofs.lemmas.Result.{IfOk-at_ok}
use Rattle.ring_scenario.proofs.runner.Runner.hear.Goals as goal

pub returns-clause-line : goal.returns-clause-line
returns-clause-line c = record {
  received = c.in_ok-received.received;
  receives = IfOk-at_ok _ c.in_ok-received.was c.in-Some.ensures.told;
  conductor = c.hear.ensures.conductor;
  rest = c.hear.ensures.rest;
  prints = c.in_ok-received-2.ensures;
}
