use Rattle.ring_adders.proofs.StepLemmas.{begins}
use Rattle.ring_adders.proofs.seats.SharedCounter.new.Goals as goal

pub of_words-requires : goal.of_words-requires
of_words-requires c = begins
