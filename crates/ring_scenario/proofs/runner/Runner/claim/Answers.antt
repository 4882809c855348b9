use Rattle.std.proofs.Common.{w32}
use Rattle.std.proofs.lemmas.{Int.to_z-of_z, Result.IfOk-weaker}
use Rattle.ring_scenario.proofs.runner.Runner.claim.Goals as goal

pub returns-clause-line : goal.returns-clause-line
returns-clause-line c =
    let same = to_z-of_z w32 c.args.type_id c.ranges.type_id in
    IfOk-weaker c.claimed.result _ _
    (λ text shown. record {
      tried = c.in_ok-tried.tried;
      claimed = rw same at c.in_ok-tried.ensures.claimed;
      consumer = c.claim.ensures.consumer;
      prints = shown;
    }) c.claimed.ensures
