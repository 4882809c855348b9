use Rattle.ring_service.proofs.AccountLemmas.{ignores_receivers}
use Rattle.ring_service.proofs.laws.fold_ignores_receivers.Goals as goal

pub returns : goal.returns
returns c = ignores_receivers
