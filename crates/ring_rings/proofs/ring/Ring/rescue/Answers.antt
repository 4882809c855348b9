use Rattle.ring_rings.{specs.Seats.start_of, proofs.RescueLemmas.is_rescued, proofs.RescueLemmas.rescued_ring}
use Rattle.ring_rings.proofs.ring.Ring.rescue.Goals as goal

pub from_words-requires-clause-ring : goal.from_words-requires-clause-ring
from_words-requires-clause-ring g c =
    let s = c.save_words-words.ensures in
    rescued_ring c.args.self.capacity (start_of c.args.self) c.args.consumer.seat.me.0
    c.save_words-words.result.0.items c.save_words-words.result.1.claims c.save_words-words.result.1.silent s.had.0
    s.had.1 (s.each s.had.0 s.had.1 s.had.2)

pub returns : goal.returns
returns g c = record {
  rescued = is_rescued g.B.Mode.bodies c.args.self.capacity c.args.self.table.shared.key c.args.consumer.seat.me.0
      c.save_words-words.result.0.items _ c.args.self.key c.from_words.ensures c.save_words-words.ensures.had
      c.save_words-words.ensures.each;
}
