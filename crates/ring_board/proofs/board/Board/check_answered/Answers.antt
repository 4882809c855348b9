use Rattle.std.proofs.Common.{rules, ◌∙◌, add-zero, sym}
use Rattle.ring_board.proofs.BodyLemmas.{checks_answered}
use Rattle.ring_board.proofs.board.Board.check_answered.Goals as goal

pub load-requires : goal.load-requires
load-requires c = (
  search rules,
  c.trailer_index.ensures.inside,
  checks_answered _ _ _ _ _ _ c.requires.stage.0 (c.requires.stage.1 ∙ sym c.args.self.now.key)
      (c.trailer_index.ensures.lies ∙ add-zero _),
)
