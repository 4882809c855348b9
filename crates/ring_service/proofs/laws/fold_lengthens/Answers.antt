use Rattle.ring_service.proofs.AccountLemmas.{lengthens}
use Rattle.ring_service.proofs.laws.fold_lengthens.Goals as goal

pub returns : goal.returns
returns c = lengthens
