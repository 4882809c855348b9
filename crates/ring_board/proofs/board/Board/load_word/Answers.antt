use Rattle.std.proofs.Common.{rules, ℕ, ◌+◌, ◌*◌, length, sym, ap, ◌∙◌, arith}
use Rattle.ring_layout.specs.Places.{index}
use Rattle.ring_board.proofs.{PlaceLemmas.index_below, ReceiveLemmas.loads_word}
use Rattle.ring_board.proofs.board.Board.load_word.Goals as goal

pub load-requires : goal.load-requires
load-requires c = let is = sym c.args.self.now.key in let q = c.requires.stage in let p : ℕ =
    c.args.seat.now.me.0.at + 8 + 8 * length q.1 in let lawful = c.args.self.now.lawful in let at = q.4 in
    let lt = index_below c.args.self.now.capacity p lawful.0 lawful.2 in let wide = c.args.self.now.wide.0 in
    (search rules, omega arith, loads_word _ _ _ _ _ _ q.0 q.1 q.2 q.3 (at ∙ ap (λ (n : ℕ). index n p) is))
