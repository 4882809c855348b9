use Rattle.std.proofs.Common.{ap, inl, length, arith}
use Rattle.ring_counters.specs.Manager.{registry_of}
use Rattle.ring_service.proofs.SizeLemmas.{few_live}
use Rattle.ring_scenario.proofs.scenario.count_live.Goals as goal

pub count-requires-clause-fits : goal.count-requires-clause-fits
count-requires-clause-fits c =
    let few = few_live (registry_of c.args.counters.now) in
    let listed = ap length c.iter.ensures in
    let all = c.count-all.ensures in
    let word = c.count-all.type_inv in
    inl (omega arith)
