use Rattle.std.proofs.Common.{rules, ℕ, sym, ◌∙◌, subst, arith}
use Rattle.ring_layout.specs.{History.IsMessage, Places.index}
use Rattle.ring_board.proofs.TransmitterSteps.{stores_header}
use Rattle.ring_board.proofs.board.Board.store_header.Goals as goal

pub store-requires : goal.store-requires
store-requires c = let is = sym c.args.self.now.key in let q = c.requires.stage in let at = c.index.ensures in let lt =
    at.1 in let wide = c.args.self.now.wide.0 in (
      search rules,
      omega arith,
      stores_header _ _ _ _ _ _ _ q.0 q.1 q.2 (at.0 ∙ (λ k. index (is k) (q.3 k)))
          (subst (λ (n : ℕ). IsMessage n q.1) is q.4) (q.5, q.6) q.7,
    )
