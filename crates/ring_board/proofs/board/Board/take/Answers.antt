use Rattle.std.proofs.Common.{ℕ, ap, inr, arith}
use Rattle.ring_board.specs.Views.{Sat}
use Rattle.ring_board.proofs.board.Board.take.Goals as goal

pub load_intent-intent_after-requires-clause-loaded : goal.load_intent-intent_after-requires-clause-loaded
load_intent-intent_after-requires-clause-loaded c = let w : ℕ = c.args.header in let h =
    c.copy_body.ensures.copied w c.requires.stage.0 in let a = c.announced.ensures.0 in let d =
    c.div_ceil.ensures in let s = c.requires.sound.message in let long = h.3 in let b = s.1 in
    inr (inr (w, h.0, ap (λ (m : Sat). m.0.stage) h.2, omega arith))
