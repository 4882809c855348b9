use Rattle.std.proofs.Common.{w32}
use Rattle.std.proofs.lemmas.{Int.to_z-of_z, Result.IfOk-weaker}
use Rattle.ring_scenario.proofs.runner.Runner.transmit.Goals as goal

pub returns-clause-line : goal.returns-clause-line
returns-clause-line c =
    let same = to_z-of_z w32 c.args.type_id c.ranges.type_id in
    let call = c.transmit-sent in
    IfOk-weaker c.done.result _ _
    (λ text shown. record {
      sent = call.result;
      refused = rw same at call.ensures.refused;
      same = call.ensures.same;
      transmitted = rw same at call.ensures.sent;
      rest = call.ensures.rest;
      prints = shown;
    }) c.done.ensures
