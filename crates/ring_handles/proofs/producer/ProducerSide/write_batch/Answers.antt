use Rattle.std.proofs.Common.{rules, ◌∙◌, ap, subst, sym}
use Rattle.ring_handles.specs.{Side.side, Side.side_in, Side.Side, WritingBatch.WroteBatch}
use Rattle.ring_handles.proofs.producer.ProducerSide.write_batch.Goals as goal

pub returns-in-Many : goal.returns-in-Many
returns-in-Many c =
    let own = c.self.inside in
    let call = c.write_batch_in in
    let done = subst (λ (s : Side). WroteBatch c.args.records.now call.new.written s (side own.identity call.new.end) call.result)
    (ap (side_in own.identity) (sym c.in-Many.is) ∙ c.self.view_is) (call.ensures.code own.identity) in
    search (rules, done)

pub returns-in-One : goal.returns-in-One
returns-in-One c =
    let own = c.self.inside in
    let call = c.write_batch_in-in-One in
    let done = subst (λ (s : Side). WroteBatch c.args.records.now call.new.written s (side own.identity call.new.end) call.result)
    (ap (side_in own.identity) (sym c.in-One.is) ∙ c.self.view_is) (call.ensures.code own.identity) in
    search (rules, done)
