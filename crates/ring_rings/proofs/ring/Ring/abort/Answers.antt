use Rattle.std.proofs.Common.{ap, refl}
use Rattle.ring_layout.specs.declared.message.ClaimState.TheVariants.{Aborted}
use Rattle.ring_table.specs.{declared.claim.Stage.TheVariants.Stored, declared.view.View.View, Changes.staged}
use Rattle.ring_rings.proofs.SentLemmas.{change_sends_none}
use Rattle.ring_rings.proofs.ring.Ring.abort.Goals as goal

pub returns-clause-sent : goal.returns-clause-sent
returns-clause-sent g c =
    let p = c.args.producer.now in
    let t = c.args.claim in
    change_sends_none p.seat.me.0 _ t.place t.type_id t.len (staged (Stored Aborted)) p.known.rising
    (ap (λ (v : View). v.producer.claims) c.settle.ensures.settled) c.requires.claim.claim refl
