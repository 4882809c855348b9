use Rattle.std.proofs.Common.{rules}
use Rattle.ring_board.proofs.TransmitterSteps.{stores_tail}
use Rattle.ring_board.proofs.board.Board.store_tail.Goals as goal

pub store-requires : goal.store-requires
store-requires c = let stage = c.requires.stage in (
  search rules,
  c.trailer_index.ensures.inside,
  stores_tail _ _ _ _ _ _ _ stage.0 stage.1 c.trailer_index.ensures.lies stage.2,
)
