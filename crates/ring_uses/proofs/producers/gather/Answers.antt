use Rattle.std.proofs.Common.{arith}
use Rattle.ring_uses.proofs.MergeLemmas.{in_order}
use Rattle.ring_uses.proofs.producers.gather.Goals as goal

pub returns : goal.returns
returns g c =
    let p = c.join-producer.ensures.first in
    let r = c.join-producer.ensures.second in
    let from = c.from-all.ensures in
    let le = r.1 in
    in_order c.args.last _ c.join-producer.result.0 c.join-producer.result.1.0 c.in_ok-closed.ensures p.1
    (omega (arith, le, from)) r.2
