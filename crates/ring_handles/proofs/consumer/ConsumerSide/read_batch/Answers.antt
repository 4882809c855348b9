use Rattle.std.proofs.Common.{rules, ◌≡◌, sym, subst, ℤ, w32, to_z, of_z}
use Rattle.ring_handles.specs.Batch.{ReadBatch, ReceivesBatch, batch}
use Rattle.ring_handles.proofs.BatchLemmas.{batch_twice, received_batch}
use Rattle.ring_handles.proofs.consumer.ConsumerSide.read_batch.Goals as goal

pub returns-then-eq-clause-does : goal.returns-then-eq-clause-does
returns-then-eq-clause-does c =
    let again = c.try_read_batch in
    let n = again.result.0 in
    let same : to_z w32 (of_z w32 n) ≡ n = search rules in
    subst (λ (code : ℤ). ReadBatch c.args.limit (batch c.args.count.now c.args.used.now c.args.buffer.now)
    (batch again.new.count again.new.used again.new.buffer) c.args.self.now again.new.self code) (sym same)
    (batch_twice c.args.limit c.try_read_batch-code.result.1 again.result.1 _ _ _ c.args.self.now
    c.try_read_batch-code.new.self again.new.self c.try_read_batch-code.result.0 n (search rules) (search rules)
    c.try_read_batch-code.ensures again.ensures)

pub returns-then-eq-clause-received : goal.returns-then-eq-clause-received
returns-then-eq-clause-received c =
    received_batch _ c.args.limit _ _ c.args.self.now c.try_read_batch.new.self _ (returns-then-eq-clause-does c).3

pub returns-clause-received : goal.returns-clause-received
returns-clause-received c =
    let first = c.try_read_batch-code in
    let n = first.result.0 in
    let same : to_z w32 (of_z w32 n) ≡ n = search rules in
    subst (λ (code : ℤ). ReceivesBatch (batch c.args.count.now c.args.used.now c.args.buffer.now)
    (batch first.new.count first.new.used first.new.buffer) c.args.self.now first.new.self code) (sym same)
    (received_batch _ c.args.limit _ _ c.args.self.now first.new.self n first.ensures.3)
