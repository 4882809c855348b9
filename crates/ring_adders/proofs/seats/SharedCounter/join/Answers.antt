use Rattle.std.proofs.Common.{arith, ◌∙◌}
use Rattle.ring_adders.proofs.StepLemmas.{joins, loads}
use Rattle.ring_adders.proofs.seats.SharedCounter.join.Goals as goal

pub join_seat-requires : goal.join_seat-requires
join_seat-requires c = (
  c.requires.adder,
  c.requires.other,
  c.args.other.bare,
  (let h = c.args.self.now.counts in omega arith),
  joins _ _ _ _ (let k = c.args.adder.now.some in let e = c.args.adder.now.counted in omega arith),
)

pub load-requires : goal.load-requires
load-requires c = (
  c.join_seat.ensures.0 ∙ c.requires.adder,
  (let h = c.args.self.now.counts in omega arith),
  loads _ _ _ _,
)
