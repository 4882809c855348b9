use Rattle.std.proofs.Common.{rules, ◌∙◌, add-zero}
use Rattle.ring_board.proofs.ReceiveLemmas.{loads_intent}
use Rattle.ring_board.proofs.board.Board.load_intent.Goals as goal

pub load-requires : goal.load-requires
load-requires c = (
  search rules,
  c.trailer_index.ensures.inside,
  loads_intent _ _ _ _ _ _ c.requires.loaded (c.trailer_index.ensures.lies ∙ add-zero _),
)
