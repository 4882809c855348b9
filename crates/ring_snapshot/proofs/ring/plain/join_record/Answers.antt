use Rattle.std.proofs.Common.{arith}
use Rattle.std.proofs.lemmas.List.{places}
use Rattle.ring_snapshot.proofs.JoinLemmas.{index_inside}
use Rattle.ring_snapshot.proofs.ring.plain.join_record.Goals as goal

pub returns-clause-trailer : goal.returns-clause-trailer
returns-clause-trailer c =
    let below = index_inside c.args.capacity c.args.at c.requires.lawful in λ i le. grind (arith, places)
