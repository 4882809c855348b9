use Rattle.ring_counters.proofs.ListingLemmas.{ClosedUpTo}
use Rattle.ring_counters.proofs.records.Records.close.Given as goal

abbrev pub invariant-loop-id : goal.invariant-loop-id
invariant-loop-id l = ClosedUpTo l.initial.self l.self l.now l.owner l.id l.freed l.id-end
