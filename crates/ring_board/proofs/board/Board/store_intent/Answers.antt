use Rattle.std.proofs.Common.{rules, ℕ, sym, subst, ◌∙◌, add-zero}
use Rattle.ring_board.{specs.Records.Lies, specs.TransmitterSteps.place_before, proofs.TransmitterSteps.stores_intent}
use Rattle.ring_board.proofs.board.Board.store_intent.Goals as goal

pub store-requires : goal.store-requires
store-requires c = let at : ℕ = c.args.seat.now.me.0.at in (
  search rules,
  c.trailer_index.ensures.inside,
  stores_intent _ _ _ _ _ _ _ c.requires.idle (c.trailer_index.ensures.lies ∙ add-zero _) c.requires.limit
      (subst (λ (n : ℕ). Lies n at at (place_before n at c.args.end) c.args.end) (sym c.args.self.now.key)
      c.requires.fits),
)
