use Rattle.ring_table.proofs.LawLemmas.{changed_newest}
use Rattle.ring_table.proofs.laws.newest_claim_changes_alone.Goals as goal

pub returns : goal.returns
returns c = changed_newest
