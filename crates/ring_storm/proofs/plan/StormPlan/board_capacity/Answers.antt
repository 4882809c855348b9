use Rattle.ring_storm.proofs.StormLemmas.{board_for}
use Rattle.ring_storm.proofs.plan.StormPlan.board_capacity.Goals as goal

pub returns : goal.returns
returns c =
    let e = c.next_power_of_two.ensures in
    board_for _ _ _ _ c.all_commands.ensures c.max.ensures e.power e.lower_bound e.upper_bound
