use Rattle.std.proofs.Common.{of_z, subst, to_z, true, w32, ◌∙◌}
use Rattle.ring_rings.specs.{Claiming.RefusesTry, Seats.capacity_of, Seats.view_of}
use Rattle.ring_rings.proofs.{SentLemmas.tries_send_none, WaitLemmas.tried_more, WaitLemmas.tried_none}
use Rattle.ring_rings.proofs.producer.wait.Ring+ManyToOne+B.claim.Goals as goal

pub loop-init : goal.loop-init
loop-init g c = tried_none _ _ _ _ c.requires.producer

pub loop-preserved : goal.loop-preserved
loop-preserved g c =
    let t = c.in-Err-Contended in
    let told = subst (λ f. RefusesTry true (capacity_of c.args.self.now) (to_z w32 (of_z w32 c.args.type_id)) c.args.len
    (view_of c.loop.producer) f (view_of c.claim_once.new.producer)) t.field-0-is t.ensures.refused in
    tried_more c.args.self.now (to_z w32 (of_z w32 c.args.type_id)) c.args.len c.args.producer.now c.loop.producer
    c.claim_once.new.producer t.field-0-0 t.field-0-1 c.loop.invariant t.ensures.producer told t.ensures.keeps

pub returns-in-Ok-clause-opened : goal.returns-in-Ok-clause-opened
returns-in-Ok-clause-opened g c =
    let opened = c.in-Ok.ensures.opened in
    record { is_open = opened.is_open; apart = λ t h. opened.apart t (c.loop.invariant.claims t h) }

pub returns-in-Ok-clause-keeps : goal.returns-in-Ok-clause-keeps
returns-in-Ok-clause-keeps g c t h = c.claim_once.ensures.keeps t (c.loop.invariant.claims t h)

pub returns-in-Ok-clause-sent : goal.returns-in-Ok-clause-sent
returns-in-Ok-clause-sent g c = c.claim_once.ensures.sent ∙ tries_send_none _ _ _ c.loop.invariant.tries _ _ c.loop.invariant.contended

pub returns-in-Err-Refused-clause-sent : goal.returns-in-Err-Refused-clause-sent
returns-in-Err-Refused-clause-sent g c = c.claim_once.ensures.sent ∙ tries_send_none _ _ _ c.loop.invariant.tries _ _ c.loop.invariant.contended
