use Rattle.ring_words.proofs.ReadHeeds.{controls_heard}
use Rattle.ring_words.proofs.ring.SoloRing.controlled_read.Goals as goal

pub returns-clause-controls : goal.returns-clause-controls
returns-clause-controls g c = controls_heard g.H.Handler.step c.args.limit c.args.self.now c.run.new.self
    c.args.handler.now c.run.new.handler c.run.result c.run.ensures.controls
