use Rattle.ring_snapshot.proofs.CounterLemmas.{entries_exact}
use Rattle.ring_snapshot.proofs.counters.CountersSnapshot.counters_from.Goals as goal

pub returns-clause-exact : goal.returns-clause-exact
returns-clause-exact c = λ r show.
    let counters = c.args.self.now in
    entries_exact counters.metadata.now counters.values.now r show counters.ids c.args.first counters.whole
