use Rattle.std.proofs.Common.{rules, subst, sym}
use Rattle.ring_scenario.specs.Closing.{LeavesMessages}
use Rattle.ring_scenario.proofs.runner.Runner.close.Goals as goal

pub returns-clause-ended : goal.returns-clause-ended
returns-clause-ended c = record {
  messages = c.args.self.counted;
  left = subst (LeavesMessages c.args.self.ring) (sym c.from.ensures) c.in-Some.ensures;
  copies = c.close-2.ensures.runs;
  served = search rules;
  finished = search rules;
}
