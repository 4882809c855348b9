use Rattle.ring_board.proofs.CallLemmas.{lies_begun}
use Rattle.ring_board.proofs.board.Board.begin.Goals as goal

pub store_intent-requires-clause-fits : goal.store_intent-requires-clause-fits
store_intent-requires-clause-fits c =
    let lawful = c.args.self.now.lawful in let spot = c.in-Ok.ensures.spot in let t = c.args.transmitter in
    lies_begun c.args.self.now.capacity t.tail c.args.len lawful.0 lawful.2 t.whole.0 c.in-Ok.ensures.lawful.1
    t.seat.me.0.at c.in-Ok.admission.place c.in-Ok.admission.end t.ends.0 spot.0 spot.1
