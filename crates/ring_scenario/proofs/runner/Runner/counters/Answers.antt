use Rattle.std.proofs.Common.{◌∙◌, ap, Ok, Err}
use Rattle.std.proofs.lemmas.Result.{IfOk-weaker}
use Rattle.ring_scenario.specs.ServiceTexts.{counters_text}
use Rattle.ring_scenario.proofs.runner.Runner.counters.Goals as goal

pub returns-in-Ok : goal.returns-in-Ok
returns-in-Ok c =
    IfOk-weaker c.counters_text.result _ _
    (λ text shown. record {
      listed = Ok c.in-Ok.infos.items;
      infos = c.in-Ok.ensures;
      prints = shown ∙ ap counters_text c.as_slice.ensures.value;
    }) c.counters_text.ensures

pub returns-in-Err : goal.returns-in-Err
returns-in-Err c =
    IfOk-weaker c.line.result _ _
    (λ text shown. record { listed = Err c.in-Err.fault; infos = tt; prints = shown }) c.line.ensures
