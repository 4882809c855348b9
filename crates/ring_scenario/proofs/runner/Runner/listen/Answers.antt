use Rattle.std.proofs.lemmas.Result.{IfOk-weaker}
use Rattle.ring_scenario.proofs.runner.Runner.listen.Goals as goal

pub returns-clause-line : goal.returns-clause-line
returns-clause-line c =
    let made = c.in_ok-made in
    IfOk-weaker c.numbered.result _ _
    (λ text shown. record {
      made = made.made;
      refused = made.ensures.refused;
      listens = made.ensures.made;
      same = made.ensures.same;
      others = c.listen.ensures.others;
      rest = c.listen.ensures.rest;
      prints = shown;
    }) c.numbered.ensures
