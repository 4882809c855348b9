use Rattle.std.proofs.Common.{ℕ, ◌+◌, ◌<◌, sym, ◌∙◌, arith, w32, leb-false}
use Rattle.std.proofs.lemmas.Int.{to_z-of_z}
use Rattle.ring_board.proofs.FoundLemmas.{answered_as}
use Rattle.ring_board.proofs.board.Board.next_raw.Goals as goal

pub returns-else-is_lapped-clause-got : goal.returns-else-is_lapped-clause-got
returns-else-is_lapped-clause-got c = let m = c.args.seat.now.me in let p : ℕ = c.in-Entry.place in let x : ℕ =
    c.answer_entry-intent.result in let n : ℕ = c.args.self.now.capacity in let size = c.requires.stage.2 in
    let test = leb-false (p + n) x (sym c.is_lapped.ensures ∙ c.if-is_lapped.false) in let t =
    c.announced_type.type_inv in let count = c.announced.ensures.0 in
    answered_as m _ _ p c.in-Entry.header x _ _ c.in-Entry.ensures.near c.answer_entry-intent.ensures.seen
    (let g : x < p + m.0.capacity = omega arith in g)
    (to_z-of_z w32 c.announced_type.result (record { sfits = t }) ∙ c.announced_type.ensures) (omega arith)
