use Rattle.std.proofs.Common.{arith}
use Rattle.ring_counters.specs.Manager.{registry_of}
use Rattle.ring_service.proofs.SizeLemmas.{few_live}
use Rattle.ring_storm.proofs.report.count_live.Goals as goal

pub overflow_add-live : goal.overflow_add-live
overflow_add-live c =
    let few = few_live (registry_of c.args.counters.now) in
    let here = c.loop-counter.invariant.live in
    let most = c.requires.few in
    omega arith
