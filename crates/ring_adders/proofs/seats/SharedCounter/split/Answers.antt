use Rattle.std.proofs.Common.{◌<◌, arith}
use Rattle.ring_adders.proofs.StepLemmas.{splits}
use Rattle.ring_adders.proofs.seats.SharedCounter.split.Goals as goal

pub split_seat-seat-requires : goal.split_seat-seat-requires
split_seat-seat-requires c = (
  c.requires,
  (let h = c.args.self.now.counts in omega arith),
  splits _ _
      (let h = c.args.adder.now.counted in
      let spare : 1 < c.args.adder.now.shares = c.has_spare_share.ensures.spare.0 c.if-not-has_spare_share.false in
      omega arith),
)
