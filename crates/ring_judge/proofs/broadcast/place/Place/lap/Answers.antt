use Rattle.std.proofs.Common.{arith}
use Rattle.ring_judge.proofs.EventLemmas.{lapped_leads}
use Rattle.ring_judge.proofs.broadcast.place.Place.lap.Goals as goal

pub returns-clause-answer : goal.returns-clause-answer
returns-clause-answer c = lapped_leads c.args.bodies.now c.args.self.now c.args.count (omega arith) (omega arith)
