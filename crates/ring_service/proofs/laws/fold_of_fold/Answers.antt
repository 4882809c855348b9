use Rattle.ring_service.proofs.AccountLemmas.{fold_of-append}
use Rattle.ring_service.proofs.laws.fold_of_fold.Goals as goal

pub returns : goal.returns
returns c = fold_of-append
