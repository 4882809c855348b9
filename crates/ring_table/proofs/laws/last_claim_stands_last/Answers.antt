use Rattle.ring_table.proofs.LawLemmas.{interleaved-append_left, interleaved-append_right}
use Rattle.ring_table.proofs.laws.last_claim_stands_last.Goals as goal

pub returns-clause-left : goal.returns-clause-left
returns-clause-left c = interleaved-append_left

pub returns-clause-right : goal.returns-clause-right
returns-clause-right c = interleaved-append_right
