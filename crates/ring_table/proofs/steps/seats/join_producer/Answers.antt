use Rattle.std.proofs.Common.{refl}
use Rattle.ring_table.proofs.{Calls.reseated_as, SeatMarks.obeys_producer_join, SplitLemmas.joins_producer}
use Rattle.ring_table.proofs.steps.seats.join_producer.Goals as goal

pub join_seat-requires : goal.join_seat-requires
join_seat-requires g c = (
  c.requires.table.0,
  c.requires.table.1,
  c.requires.slots.1,
  c.requires.words,
  obeys_producer_join g.M.Mode.bodies c.args.ring.now.key.capacity c.args.ring.now.key.start _ _ c.requires.slots.0 _ _ c.requires.slots.2
      c.requires.produces
      (joins_producer g.M.Mode.bodies
      c.args.ring.now.key.capacity c.args.ring.now.key.start _ _ _ _ c.requires.produces c.requires.share),
)

pub returns-clause-seat : goal.returns-clause-seat
returns-clause-seat g c =
    reseated_as (c.join_seat.ensures.0, c.join_seat.ensures.1, c.join_seat.ensures.2) refl record { capacity = refl; out = refl }
