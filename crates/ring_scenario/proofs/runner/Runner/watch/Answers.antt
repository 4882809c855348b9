use Rattle.std.proofs.lemmas.Result.{IfOk-weaker}
use Rattle.ring_scenario.proofs.runner.Runner.watch.Goals as goal

pub returns-clause-line : goal.returns-clause-line
returns-clause-line c =
    let made = c.in_ok-made in
    IfOk-weaker c.numbered.result _ _
    (λ text shown. record {
      made = made.made;
      watches = made.ensures.made;
      enough = made.ensures.enough;
      same = made.ensures.same;
      keeps = c.watch.ensures.keeps;
      rest = c.watch.ensures.rest;
      prints = shown;
    }) c.numbered.ensures
