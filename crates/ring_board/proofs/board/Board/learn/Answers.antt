use Rattle.std.proofs.Common.{rules}
use Rattle.ring_board.proofs.PassLemmas.{learns}
use Rattle.ring_board.proofs.board.Board.learn.Goals as goal

pub load-requires : goal.load-requires
load-requires c = (
  search rules,
  c.trailer_index.ensures.inside,
  learns _ _ _ _ _ _ c.requires.stage c.trailer_index.ensures.lies,
)
