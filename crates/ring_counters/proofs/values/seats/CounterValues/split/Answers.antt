use Rattle.std.proofs.Common.{◌<◌, arith}
use Rattle.ring_counters.proofs.ValueSteps.{splits}
use Rattle.ring_counters.proofs.values.seats.CounterValues.split.Goals as goal

pub split_seat-seat-requires : goal.split_seat-seat-requires
split_seat-seat-requires c = (
  c.requires,
  (let h = c.args.self.now.counts in let k = c.args.self.now.some in omega arith),
  splits _ _ _
      (let h = c.args.writer.now.counted in
      let spare : 1 < c.args.writer.now.shares = c.has_spare_share.ensures.spare.0 c.if-not-has_spare_share.false in
      omega arith),
)
