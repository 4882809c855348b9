use Rattle.std.proofs.Common.{get_or, []}
use Rattle.ring_judge.{specs.Lists.lists_of, proofs.MergeLemmas.other_place}
use Rattle.ring_judge.proofs.ring.merged.Merging.end_of_turn.Goals as goal

pub returns-in_default : goal.returns-in_default
returns-in_default c = other_place (get_or (lists_of c.args.lists.now) c.args.thread [])
    (get_or c.args.self.now.taken.items c.args.thread 0) c.in-Some.end c.in-Some.its_place c.args.place
    c.in-Some.ensures c.if-its_place-place.false
