use Rattle.std.proofs.Common.{rules, refl}
use Rattle.ring_scenario.proofs.runner.Runner.new.Goals as goal

pub returns-clause-options : goal.returns-clause-options
returns-clause-options c = record {
  ring = c.in-Ok.ensures.fresh;
  board = search rules;
  transmitter = search rules;
  receivers = search rules;
  commands = refl;
  service = search rules;
  serves = refl;
}
