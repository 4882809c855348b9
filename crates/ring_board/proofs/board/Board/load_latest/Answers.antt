use Rattle.std.proofs.Common.{rules}
use Rattle.ring_board.proofs.ReceiveLemmas.{loads_latest}
use Rattle.ring_board.proofs.board.Board.load_latest.Goals as goal

pub load-requires : goal.load-requires
load-requires c = (
  search rules,
  c.trailer_index.ensures.inside,
  loads_latest _ _ _ _ _ _ c.requires.stage c.trailer_index.ensures.lies,
)
