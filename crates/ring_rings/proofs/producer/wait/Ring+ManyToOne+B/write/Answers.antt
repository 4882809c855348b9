use Rattle.std.proofs.Common.{length, of_z, rules, subst, to_z, true, w32, ◌∙◌}
use Rattle.ring_rings.specs.{Claiming.RefusesTry, Seats.capacity_of, Seats.view_of}
use Rattle.ring_rings.proofs.{SentLemmas.tries_send_none, WaitLemmas.tried_more, WaitLemmas.tried_none}
use Rattle.ring_rings.proofs.producer.wait.Ring+ManyToOne+B.write.Goals as goal

pub loop-init : goal.loop-init
loop-init g c = tried_none _ _ _ _ c.requires.producer

pub loop-preserved : goal.loop-preserved
loop-preserved g c =
    let t = c.in-Err-Contended in
    let told = subst (λ f. RefusesTry true (capacity_of c.args.self.now) (to_z w32 (of_z w32 c.args.type_id))
    (length c.args.body.now) (view_of c.loop.producer) f (view_of c.write_once.new.producer)) t.field-0-is
    t.ensures.refused in
    tried_more c.args.self.now (to_z w32 (of_z w32 c.args.type_id))
    (length c.args.body.now) c.args.producer.now c.loop.producer c.write_once.new.producer t.field-0-0 t.field-0-1
    c.loop.invariant t.ensures.producer told t.ensures.keeps

pub returns-in-Ok-clause-sent : goal.returns-in-Ok-clause-sent
returns-in-Ok-clause-sent g c =
    let tries = tries_send_none _ _ _ c.loop.invariant.tries _ _ c.loop.invariant.contended in
    search rules

pub returns-in-Err-Refused-clause-sent : goal.returns-in-Err-Refused-clause-sent
returns-in-Err-Refused-clause-sent g c =
    (tt, c.in-Err-Refused.ensures.sent.1 ∙ tries_send_none _ _ _ c.loop.invariant.tries _ _ c.loop.invariant.contended)
