use Rattle.std.proofs.Common.{ℕ, ◌+◌, List, ap, arith}
use Rattle.ring_table.{specs.declared.runs.Outgoing.Outgoing, proofs.RunFill.bytes_more}
use Rattle.ring_rings.proofs.producer.batch.count_fitting.Goals as goal

pub loop-message-preserved : goal.loop-message-preserved
loop-message-preserved c =
    let os : List Outgoing = c.args.messages.now in
    let i : ℕ = c.loop-message.message-index in
    let inv = c.loop-message.invariant in
    let more = bytes_more os i c.loop-message-test.true in
    let here = inv.1 in
    (ap (λ n. n + 1) inv.0, omega arith, omega arith)
