use Rattle.std.proofs.Common.{◌≡◌, ℕ, List, ◌++◌, length, take, drop, ap, sym, ◌∙◌, subst, length-take-le}
use Rattle.std.proofs.Math.Seq.{take-append_seam}
use Rattle.ring_board.specs.{Bodies.GaveBody, Views.Sat}
use Rattle.ring_board.proofs.{BodyLemmas.loaded_now, RawLemmas.answered_same}
use Rattle.ring_board.proofs.board.Receiver.load_body.Goals as goal

pub returns-clause-gave : goal.returns-clause-gave
returns-clause-gave c =
    let new : List ℕ = c.load_answered.new.out in let rest : List ℕ = drop c.args.raw.now.len c.args.out.now in
    let same : length new ≡ c.args.raw.now.len =
    c.load_answered.auto.out ∙ length-take-le c.args.raw.now.len c.args.out.now c.requires.room in
    subst (λ (body : List ℕ). GaveBody c.args.raw.now.place body c.args.self.now.seat.me c.load_answered.new.seat.me)
    (sym (ap (λ (n : ℕ). take n (new ++ rest)) (sym same) ∙ take-append_seam new rest)) c.load_answered.ensures.gave

pub returns-clause-loaded : goal.returns-clause-loaded
returns-clause-loaded c = loaded_now _ _ _ _ (returns-clause-gave c)

pub returns-clause-kept : goal.returns-clause-kept
returns-clause-kept c = let new = c.load_answered.ensures.gave.1 in λ r h. answered_same _ _ r
    (ap (λ (m : Sat). m.0.capacity) new) (ap (λ (m : Sat). m.0.copies) new) h
