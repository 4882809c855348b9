use Rattle.std.proofs.Common.{rules, ℕ, ◌+◌, ◌*◌, length, sym, ap, ◌∙◌, arith}
use Rattle.ring_layout.specs.Places.{index}
use Rattle.ring_board.proofs.{PlaceLemmas.index_below, TransmitterSteps.stores_word}
use Rattle.ring_board.proofs.board.Board.store_word.Goals as goal

pub store-requires : goal.store-requires
store-requires c = let is = sym c.args.self.now.key in let d = c.requires.stage.0 in let p : ℕ =
    d.place + 8 + 8 * length d.words in let lawful = c.args.self.now.lawful in
    let lt = index_below c.args.self.now.capacity p lawful.0 lawful.2 in let at = c.requires.stage.2 in let wide =
    c.args.self.now.wide.0 in (
      search rules,
      omega arith,
      stores_word _ _ _ _ _ _ _ d c.requires.stage.1 (at ∙ ap (λ (n : ℕ). index n p) is) c.requires.stage.3,
    )
