use Rattle.std.proofs.Common.{ap}
use Rattle.ring_table.specs.declared.view.View.{View}
use Rattle.ring_rings.proofs.SentLemmas.{commit_sends}
use Rattle.ring_rings.proofs.ring.Ring.commit.Goals as goal

pub returns-clause-sent : goal.returns-clause-sent
returns-clause-sent g c =
    let p = c.args.producer.now in
    let t = c.args.claim in
    commit_sends p c.settle.new.producer t.place t.type_id t.len p.known.rising
    (ap (λ (v : View). v.producer.claims) c.settle.ensures.settled) c.requires.claim.claim
