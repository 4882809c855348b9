use Rattle.ring_counters.proofs.ShownLemmas.{shows, shown_kept}
use Rattle.ring_counters.proofs.records.Records.used.Goals as goal

pub returns-clause-most : goal.returns-clause-most
returns-clause-most c =
    let s = shows c.self.view_is c.self.invariant in
    (shown_kept s).used_ids

pub returns-clause-unused : goal.returns-clause-unused
returns-clause-unused c =
    let s = shows c.self.view_is c.self.invariant in
    (shown_kept s).unused
