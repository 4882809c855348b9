use Rattle.std.proofs.lemmas.Result.{err_from_is_err_and}
use Rattle.ring_scenario.proofs.lines.service_call.ServiceCall.work.Goals as goal

pub returns-in_err-now-clause-bad : goal.returns-in_err-now-clause-bad
returns-in_err-now-clause-bad c =
    let exit = err_from_is_err_and c.from_residual.result c.from_residual.ensures.1 in
    rw (exit.1, exit.2) (λ _ values some. c.in_err-now.ensures.bad some.0 some.1 some.2 (values.0, some.3))
