use Rattle.ring_layout.proofs.PictureLemmas.{shows_claim, shows_nothing_else}
use Rattle.ring_layout.proofs.picture_law.word_depends_on_one_claim.Goals as goal

pub returns : goal.returns
returns c = record {
  claim = λ capacity e front x back. shows_claim capacity e front x back;
  room = λ capacity e h. shows_nothing_else capacity e h;
}
