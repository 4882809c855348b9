use Rattle.std.proofs.Common.{refl}
use Rattle.ring_table.proofs.{Calls.reseated_as, SeatMarks.obeys_producer_split, SplitLemmas.splits_producer}
use Rattle.ring_table.proofs.steps.seats.split_producer.Goals as goal

pub split_seat-requires : goal.split_seat-requires
split_seat-requires g c = (
  c.requires.table,
  c.requires.words,
  obeys_producer_split g.M.Mode.bodies c.args.ring.now.key.capacity c.args.ring.now.key.start _ _ c.requires.home
      (splits_producer g.M.Mode.bodies c.args.ring.now.key.capacity c.args.ring.now.key.start _ _
      c.requires.shares),
)

pub returns-clause-seat : goal.returns-clause-seat
returns-clause-seat g c =
    reseated_as (c.split_seat.ensures.0, c.split_seat.ensures.1, c.split_seat.ensures.2) refl record { capacity = refl; out = refl }
