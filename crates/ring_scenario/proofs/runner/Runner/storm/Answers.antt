use Rattle.std.proofs.lemmas.Result.{IfOk-weaker}
use Rattle.ring_scenario.proofs.runner.Runner.storm.Goals as goal

pub returns : goal.returns
returns g c =
    let call = c.storm-ran in
    IfOk-weaker c.stormed.result _ _
    (λ text shown. record {
      ran = call.result;
      bad_plan = call.ensures.bad_plan;
      report = call.ensures.report;
      prints = shown;
    }) c.stormed.ensures
