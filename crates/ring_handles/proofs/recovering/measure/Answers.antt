use Rattle.std.proofs.Common.{◌*◌, ◌≤◌, arith, ap, length}
use Rattle.ring_recovery.specs.Recovered.{messages_left}
use Rattle.ring_handles.specs.{Batch.laid_end, Recovering.still_to_come}
use Rattle.ring_handles.proofs.RecoveringLemmas.{few, first_fits}
use Rattle.ring_handles.proofs.recovering.measure.Goals as goal

pub overflow_add-count : goal.overflow_add-count
overflow_add-count c =
    let all = few (messages_left c.args.recovered.now) _ c.requires in
    let left = ap length c.in-Some.ensures.steps in
    omega (arith, all, left, c.loop-message.invariant.count, c.args.recovered.now.lawful.most)

pub span_in-used-requires : goal.span_in-used-requires
span_in-used-requires c =
    let most : laid_end c.loop-message.used (still_to_come c.loop-message.message-iterator)
    ≤ 2 * c.args.recovered.now.capacity = omega (arith, c.loop-message.invariant.used, c.requires) in
    let fits = first_fits c.loop-message.used _ (messages_left c.loop-message.message-iterator) c.in-Some.message
    (messages_left c.next.new.self) c.in-Some.ensures.steps most in
    omega (arith, fits, c.args.recovered.now.lawful.most)

pub overflow_add-used : goal.overflow_add-used
overflow_add-used c =
    let most : laid_end c.loop-message.used (still_to_come c.loop-message.message-iterator)
    ≤ 2 * c.args.recovered.now.capacity = omega (arith, c.loop-message.invariant.used, c.requires) in
    let fits = first_fits c.loop-message.used _ (messages_left c.loop-message.message-iterator) c.in-Some.message
    (messages_left c.next.new.self) c.in-Some.ensures.steps most in
    omega (arith, fits, c.args.recovered.now.lawful.most)
