use Rattle.std.proofs.Common.{rules, arith}
use Rattle.ring_board.proofs.PassLemmas.{takes_in}
use Rattle.ring_board.proofs.board.Board.take_in.Goals as goal

pub join_seat-requires : goal.join_seat-requires
join_seat-requires c = let wide =
    c.args.self.now.wide.0 in (
      search rules,
      search rules,
      search rules,
      omega arith,
      takes_in _ _ _ _ _ _
          c.requires.stage,
    )
