use Rattle.std.proofs.Common.{arith}
use Rattle.ring_recovery.specs.Recovered.{messages_left}
use Rattle.ring_handles.proofs.RecoveringLemmas.{first_fits}
use Rattle.ring_handles.proofs.recovering.lay_all.Goals as goal

pub span_in-span-requires : goal.span_in-span-requires
span_in-span-requires c =
    let fits = first_fits c.loop-message.at _ (messages_left c.loop-message.message-iterator) c.in-Some.message
    (messages_left c.next.new.self) c.in-Some.ensures.steps c.loop-message.invariant.within in
    omega (arith, fits, c.args.recovered.lawful.most)

pub place_body-requires : goal.place_body-requires
place_body-requires c = first_fits c.loop-message.at _ (messages_left c.loop-message.message-iterator)
    c.in-Some.message (messages_left c.next.new.self) c.in-Some.ensures.steps c.loop-message.invariant.room
