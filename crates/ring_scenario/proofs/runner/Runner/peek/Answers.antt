use Rattle.ring_scenario.proofs.runner.Runner.peek.Goals as goal

pub returns-clause-line : goal.returns-clause-line
returns-clause-line c = record {
  watcher = c.in-Some.ensures.here.0;
  here = c.in-Some.ensures.here.1;
  loaded = c.in-Some.loaded;
  in_range = c.in-Some.ensures.in_range;
  value = c.in-Some.ensures.loaded;
  same = c.in-Some.ensures.refused;
  conductor = c.peek.ensures.conductor;
  rest = c.peek.ensures.rest;
  prints = c.in_ok-loaded.ensures;
}
