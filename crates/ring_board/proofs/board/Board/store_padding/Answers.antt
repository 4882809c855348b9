use Rattle.std.proofs.Common.{rules, sym, ◌∙◌, arith}
use Rattle.ring_layout.specs.Places.{index}
use Rattle.ring_board.proofs.TransmitterSteps.{stores_padding}
use Rattle.ring_board.proofs.board.Board.store_padding.Goals as goal

pub store-requires : goal.store-requires
store-requires c = let is = sym c.args.self.now.key in let d = c.requires.stage.0 in let at =
    c.index.ensures in let lt = at.1 in let wide = c.args.self.now.wide.0 in (
      search rules,
      omega arith,
      stores_padding _ _ _ _ _ _ _ d c.requires.stage.1
          (at.0 ∙ (λ k. index (is k) (c.requires.stage.2 k))) c.requires.stage.3,
    )
