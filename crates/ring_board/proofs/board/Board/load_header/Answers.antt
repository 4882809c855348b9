use Rattle.std.proofs.Common.{rules, sym, ap, ◌∙◌, arith}
use Rattle.ring_layout.specs.Places.{index}
use Rattle.ring_board.{specs.ReceiverSteps.header_loaded, proofs.ReceiveLemmas.loads_header}
use Rattle.ring_board.proofs.board.Board.load_header.Goals as goal

pub load-requires : goal.load-requires
load-requires c = let is = sym c.args.self.now.key in let at = c.index.ensures in let lt = at.1 in let wide =
    c.args.self.now.wide.0 in (
      search rules,
      omega arith,
      loads_header _ _ _ _ _ _ c.args.place c.requires.place
          (at.0 ∙ (λ k. index (is k) c.args.place)),
    )

pub returns-clause-heard : goal.returns-clause-heard
returns-clause-heard c = let me = c.args.seat.now.me in
    c.load.ensures.2 ∙ ap (λ i. (header_loaded me.0 i me.0.stage c.load.result, me.1)) c.index.ensures.0
