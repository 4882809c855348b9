use Rattle.ring_words.proofs.ReadHeeds.{reads_unheard}
use Rattle.ring_words.proofs.ring.SoloRing.read.Goals as goal

pub returns-clause-reads : goal.returns-clause-reads
returns-clause-reads g c =
    let read = reads_unheard g.H.Handler.step c.args.limit c.args.self.now c.run.new.self c.args.handler.now
    c.run.new.handler c.run.result c.run.ensures.controls in
    record { reads = read.0; bytes = c.run.ensures.bytes; stopped = read.1 }
