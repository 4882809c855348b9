use Rattle.std.proofs.Common.{arith}
use Rattle.ring_snapshot.proofs.JoinLemmas.{index_inside}
use Rattle.ring_recovery.proofs.mark.found_at.Goals as goal

pub bounds-slots-index : goal.bounds-slots-index
bounds-slots-index c =
    let below = index_inside c.args.capacity c.args.at c.requires.capacity in
    omega (arith, below, c.requires.slots, c.word_index-index.ensures)
