use Rattle.std.proofs.Common.{arith, length, ap}
use Rattle.ring_counters.proofs.ShownLemmas.{shows, shown_queue, first_deadline}
use Rattle.ring_counters.proofs.records.Records.reach.Goals as goal

pub returns-then-self-clause-later : goal.returns-then-self-clause-later
returns-then-self-clause-later c =
    let s = shows c.self.view_is c.self.invariant in
    λ k far less. first_deadline s c.if-self.true k
    (omega (arith, ap length (shown_queue s), less))
