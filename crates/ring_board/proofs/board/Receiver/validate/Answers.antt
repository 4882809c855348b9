use Rattle.std.proofs.Common.{ℕ, ◌+◌, ◌<◌, ap, sym, ◌∙◌, subst, arith, leb-false}
use Rattle.std.proofs.lemmas.Bool.{not-true}
use Rattle.ring_board.{specs.Bodies.IsLoaded, specs.Views.Sat, proofs.RawLemmas.answered_same}
use Rattle.ring_board.proofs.board.Receiver.validate.Goals as goal

pub returns-clause-right : goal.returns-clause-right
returns-clause-right c = let v = c.args.self.now.seat.me.0 in let x : ℕ = c.check_answered-intent.result in let size =
    c.requires.board.1.0 in
    λ valid n taken body on there loaded long. let below =
    leb-false (c.args.raw.now.place + c.args.board.now.capacity) x
    (sym c.is_lapped.ensures ∙ not-true c.is_lapped.result valid) in
    c.check_answered-intent.ensures.seen.1 n taken body on (let g : x < taken.place + v.capacity = omega arith in g)
    (subst (λ (p : ℕ). IsLoaded v.capacity v.log p body) (sym there) loaded) long

pub returns-clause-kept : goal.returns-clause-kept
returns-clause-kept c = let new = c.check_answered-intent.ensures.seen.0 in λ r h. answered_same _ _ r
    (ap (λ (m : Sat). m.0.capacity) new) (ap (λ (m : Sat). m.0.copies) new) h
