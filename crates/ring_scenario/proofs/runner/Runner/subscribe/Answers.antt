use Rattle.std.proofs.lemmas.Result.{IfOk-weaker}
use Rattle.ring_scenario.proofs.runner.Runner.subscribe.Goals as goal

pub returns-clause-line : goal.returns-clause-line
returns-clause-line c =
    IfOk-weaker c.numbered.result _ _
    (λ text shown. record {
      made = c.in_ok-made.made;
      refused = c.in_ok-made.ensures.refused;
      subscribed = c.in_ok-made.ensures.made;
      same = c.in_ok-made.ensures.same;
      board = c.subscribe.ensures.board;
      prints = shown;
    }) c.numbered.ensures
