use Rattle.std.proofs.Common.{refl, w32}
use Rattle.std.proofs.lemmas.{Int.to_z-of_z, Result.IfOk-weaker}
use Rattle.ring_scenario.proofs.runner.Runner.write.Goals as goal

pub returns-clause-line : goal.returns-clause-line
returns-clause-line c =
    let same = to_z-of_z w32 c.args.type_id c.ranges.type_id in
    let call = c.write_alone-written in
    IfOk-weaker c.done.result _ _
    (λ text shown. record {
      written = call.result;
      sent = rw same at call.ensures.sent;
      wrote = rw same at call.ensures.does;
      rest = (refl, refl);
      prints = shown;
    }) c.done.ensures
