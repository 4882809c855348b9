use Rattle.std.proofs.Common.{rules, arith}
use Rattle.ring_board.proofs.PassLemmas.{splits_off}
use Rattle.ring_board.proofs.board.Board.split_off.Goals as goal

pub split_seat-requires : goal.split_seat-requires
split_seat-requires c = let wide =
    c.args.self.now.wide.0 in (search rules, omega arith, splits_off _ _ _ _ c.requires.stage.0 c.requires.stage.1)
