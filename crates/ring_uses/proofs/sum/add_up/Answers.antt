use Rattle.ring_uses.proofs.SumLemmas.{summed}
use Rattle.ring_uses.proofs.sum.add_up.Goals as goal

pub returns : goal.returns
returns g c =
    let p = c.join-producer.ensures.first in
    let r = c.join-producer.ensures.second in
    let producer = c.join-producer.result.0 in
    let consumer = c.join-producer.result.1.0 in
    summed c.args.last p.1.0 _ producer consumer c.in_ok-closed.ensures p.1.1 p.1.2 r.1 r.2
