use Rattle.std.proofs.Common.{ℕ, ℤ, take, sym, subst, ◌∙◌, w32}
use Rattle.std.proofs.lemmas.Int.{to_z-of_z}
use Rattle.ring_board.{specs.Receiving.GotCopy, proofs.FoundLemmas.took_from, proofs.FoundLemmas.missed_from}
use Rattle.ring_board.proofs.board.Board.copy_next.Goals as goal

pub returns-in-Ok-clause-got : goal.returns-in-Ok-clause-got
returns-in-Ok-clause-got c = let m = c.args.seat.now.me in let t = c.announced_type.type_inv in let p : ℕ =
    c.in-Entry.place in let w : ℕ = c.in-Entry.header in
    subst (λ (z : ℤ). GotCopy p z (take c.in-Ok.len c.take.new.scratch) m c.take.new.seat.me)
    (sym (to_z-of_z w32 c.announced_type.result (record { sfits = t }) ∙ c.announced_type.ensures))
    (took_from m c.find.new.seat.me c.take.new.seat.me p w c.in-Ok.len c.take.new.scratch c.in-Entry.ensures.found
    c.in-Ok.ensures.took.0)

pub returns-in-Err-clause-got : goal.returns-in-Err-clause-got
returns-in-Err-clause-got c = missed_from c.args.seat.now.me c.find.new.seat.me c.take.new.seat.me c.in-Entry.place
    c.in-Entry.header c.in-Err.intent c.in-Entry.ensures.found c.in-Err.ensures.took
