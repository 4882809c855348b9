use Rattle.std.proofs.Common.{refl}
use Rattle.ring_scenario.proofs.FaultLemmas.{of_fault_at}
use Rattle.ring_scenario.proofs.scenario.parse_at.Goals as goal

pub returns-in-Err-clause-bad : goal.returns-in-Err-clause-bad
returns-in-Err-clause-bad c =
    of_fault_at _ c.at_line.result c.in-Err.fault c.args.number c.at_line.ensures.line
    (λ bad. (refl, c.in-Err.ensures.bad bad))
