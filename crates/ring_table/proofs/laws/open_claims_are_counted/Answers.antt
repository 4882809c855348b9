use Rattle.ring_table.proofs.LawLemmas.{open_count-interleaved, open_count-changed, none_open}
use Rattle.ring_table.proofs.laws.open_claims_are_counted.Goals as goal

pub returns-clause-join : goal.returns-clause-join
returns-clause-join c = open_count-interleaved

pub returns-clause-change : goal.returns-clause-change
returns-clause-change c = open_count-changed

pub returns-clause-none : goal.returns-clause-none
returns-clause-none c = none_open
