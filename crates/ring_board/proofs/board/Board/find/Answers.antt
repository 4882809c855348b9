use Rattle.std.proofs.Common.{ℕ, ◌+◌, ◌<◌, sym, ◌∙◌, arith, leb-false}
use Rattle.ring_board.proofs.FoundLemmas.{unread_found}
use Rattle.ring_board.proofs.board.Board.find.Goals as goal

pub returns-else-is_lapped-clause-found : goal.returns-else-is_lapped-clause-found
returns-else-is_lapped-clause-found c = let m = c.args.seat.now.me in let p : ℕ = c.in-Entry.place in let x : ℕ =
    c.load_intent-intent_before.result in let n : ℕ = c.args.self.now.capacity in let size = c.requires.stage.2 in
    let test = leb-false (p + n) x (sym c.is_lapped.ensures ∙ c.if-is_lapped.false) in
    unread_found m _ _ p c.in-Entry.header x c.in-Entry.ensures.near c.load_intent-intent_before.ensures.seen.0
    c.load_intent-intent_before.ensures.seen.1 (let g : x < p + m.0.capacity = omega arith in g)
