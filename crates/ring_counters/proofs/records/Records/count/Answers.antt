use Rattle.std.proofs.Common.{◌≡◌, ◌≤◌, arith}
use Rattle.ring_counters.specs.Registry.{count_of}
use Rattle.ring_counters.proofs.ShownLemmas.{shows, shown_size, shown_kept}
use Rattle.ring_counters.proofs.records.Records.count.Goals.{After-len}
use Rattle.ring_counters.proofs.records.Records.count.Goals as goal

-- there are as many records as counters
counted : (c : After-len) → (c.len.result ≡ count_of c.args.self.now) × (c.len.result ≤ 4096)
counted c =
    let s = shows c.self.view_is c.self.invariant in
    let size = shown_size s in
    let few = (shown_kept s).few in
    let len = c.self.inside.metadata.ok.0 in
    (omega (arith, c.len.ensures), omega (arith, c.len.ensures))

pub overflow_cast-result : goal.overflow_cast-result
overflow_cast-result c = record { fits = omega (arith, (counted c).1) }

pub returns-clause-count : goal.returns-clause-count
returns-clause-count c = (counted c).0

pub returns-clause-most : goal.returns-clause-most
returns-clause-most c = (counted c).1
