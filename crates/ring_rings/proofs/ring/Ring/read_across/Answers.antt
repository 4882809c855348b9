use Rattle.std.proofs.Common.{ap, arith}
use Rattle.ring_table.specs.declared.view.View.{View}
use Rattle.ring_rings.{specs.Seats.consumer_view, proofs.AcrossLemmas.blocked_on, proofs.ReceivedLemmas.receives_both}
use Rattle.ring_rings.proofs.ring.Ring.read_across.Goals as goal

pub returns-clause-ends : goal.returns-clause-ends
returns-clause-ends g c =
    let first = c.read-first.ensures.ends in
    let second = c.read-second.ensures.ends in
    let moves = c.read-first.ensures.reads.reads.moves in
    record {
      within = omega (arith, first.within, second.within);
      bytes = omega (arith, first.bytes, second.bytes);
      blocked = λ stopped. blocked_on (consumer_view c.args.consumer.now) (consumer_view c.read-first.new.consumer)
          (consumer_view c.read-second.new.consumer) moves.loads (ap (λ (x : View). x.log) moves.view)
          (second.blocked stopped);
    }

pub returns-clause-received : goal.returns-clause-received
returns-clause-received g c =
    receives_both g.H.Handler.step c.args.consumer.now c.read-first.new.consumer c.read-second.new.consumer
    c.args.handler.now c.read-first.new.handler c.read-second.new.handler c.read-first.result.messages
    c.read-second.result.messages c.read-first.ensures.received c.read-second.ensures.received
