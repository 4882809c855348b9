use Rattle.ring_counters.{specs.Infos.AreInfos, proofs.ListingLemmas.live_below}
use Rattle.ring_counters.proofs.records.Records.live.Given as goal

abbrev pub invariant-loop-id : goal.invariant-loop-id
invariant-loop-id l = AreInfos l.infos.items (live_below l.self l.id)
