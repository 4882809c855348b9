use Rattle.std.proofs.Common.{rules, ◌∙◌, add-zero}
use Rattle.ring_board.proofs.ReceiveLemmas.{answers_entry}
use Rattle.ring_board.proofs.board.Board.answer_entry.Goals as goal

pub load-requires : goal.load-requires
load-requires c = (
  search rules,
  c.trailer_index.ensures.inside,
  answers_entry _ _ _ _ _ _ c.requires.stage.0 c.requires.stage.1 (c.trailer_index.ensures.lies ∙ add-zero _),
)
