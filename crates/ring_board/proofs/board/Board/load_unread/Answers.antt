use Rattle.std.proofs.Common.{rules, arith}
use Rattle.ring_board.proofs.BodyLemmas.{loads_unread}
use Rattle.ring_board.proofs.board.Board.load_unread.Goals as goal

pub load-requires : goal.load-requires
load-requires c = let is = c.args.self.now.key in let at = c.requires.at in let wide =
    c.args.self.now.wide.0 in (search rules, omega arith, loads_unread _ _ _ _ _ _ c.requires.stage)
