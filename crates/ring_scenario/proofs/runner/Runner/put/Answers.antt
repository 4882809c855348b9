use Rattle.ring_scenario.proofs.runner.Runner.put.Goals as goal

pub returns-clause-line : goal.returns-clause-line
returns-clause-line c = record {
  tried = c.in-Some.put;
  put = c.in-Some.ensures.put;
  rest = c.put.ensures.rest;
  prints = c.in_ok-done.ensures;
}
