use Rattle.std.proofs.Common.{arith}
use Rattle.ring_counters.proofs.{AvailableLemmas.unused_counted, ShownLemmas.shows, ShownLemmas.shown_kept}
use Rattle.ring_counters.proofs.records.Records.unused_count.Goals as goal

pub returns-clause-count : goal.returns-clause-count
returns-clause-count c =
    let kept = shown_kept (shows c.self.view_is c.self.invariant) in
    omega (arith, unused_counted _ _ kept.used_ids kept.unused kept.in_use, c.count.ensures.count)
