use Rattle.ring_board.proofs.BodyLemmas.{loaded_stays}
use Rattle.ring_board.proofs.laws.loaded_stays_loaded.Goals as goal

pub returns : goal.returns
returns c = loaded_stays
