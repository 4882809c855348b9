use Rattle.std.proofs.Common.{refl}
use Rattle.ring_table.proofs.{Calls.reseated_as, SeatMarks.obeys_consumer_split, SplitLemmas.splits_consumer}
use Rattle.ring_table.proofs.steps.seats.split_consumer.Goals as goal

pub split_seat-requires : goal.split_seat-requires
split_seat-requires g c = (
  c.requires.table,
  c.requires.words,
  obeys_consumer_split g.M.Mode.bodies c.args.ring.now.key.capacity c.args.ring.now.key.start _ _ c.requires.home
      (splits_consumer g.M.Mode.bodies c.args.ring.now.key.capacity c.args.ring.now.key.start _ _
      c.requires.consumes),
)

pub returns-clause-seat : goal.returns-clause-seat
returns-clause-seat g c =
    reseated_as (c.split_seat.ensures.0, c.split_seat.ensures.1, c.split_seat.ensures.2) refl record { capacity = refl; out = refl }
