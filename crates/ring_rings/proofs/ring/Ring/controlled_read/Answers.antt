use Rattle.ring_rings.specs.Seats.{consumer_view}
use Rattle.ring_rings.proofs.{ReadingHeeds.controls_heard, ReceivedLemmas.controls_receive}
use Rattle.ring_rings.proofs.ring.Ring.controlled_read.Goals as goal

pub returns-clause-controls : goal.returns-clause-controls
returns-clause-controls g c = controls_heard g.H.Handler.step c.args.limit (consumer_view c.args.consumer.now)
    (consumer_view c.run.new.consumer) c.args.handler.now c.run.new.handler c.run.result c.run.ensures.controls

pub returns-clause-received : goal.returns-clause-received
returns-clause-received g c =
    let controls = controls_heard g.H.Handler.step c.args.limit (consumer_view c.args.consumer.now)
    (consumer_view c.run.new.consumer) c.args.handler.now c.run.new.handler c.run.result c.run.ensures.controls in
    controls_receive g.H.Handler.step c.args.limit c.args.consumer.now c.run.new.consumer c.args.handler.now
    c.run.new.handler c.run.result controls
