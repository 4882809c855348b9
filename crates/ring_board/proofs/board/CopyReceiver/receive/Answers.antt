use Rattle.std.proofs.Common.{ℕ, ℤ, List, take, refl, ap, sym, subst, MatchOption, Option}
use Rattle.ring_board.specs.{declared.receiver.found.CopiedMessage.CopiedMessage, Seats.receiver_seat, Views.Sat}
use Rattle.ring_board.specs.Receiving.{GotNothing, GotCopy}
use Rattle.ring_board.proofs.board.CopyReceiver.receive.Goals as goal

pub returns-in-Some : goal.returns-in-Some
returns-in-Some c = let f = c.front.ensures in let new = c.copy_next.new.self in let a =
    receiver_seat c.args.self.now in let b = receiver_seat new in
    let got : GotCopy c.in-Some.front.place c.in-Some.front.type_id (take c.in-Some.front.len new.scratch.items) a b
    = subst (λ (o : Option CopiedMessage). MatchOption o (GotNothing a b)
    (λ q. GotCopy q.place q.type_id (take q.len new.scratch.items) a b)) c.in-Some.is
    c.in_ok-copy_next.ensures.got in
    let came = subst (λ (q : ℕ × ℤ × List ℕ). GotCopy q.0 q.1 q.2 a b) (λ k. (sym f.0 k, sym f.1 k, sym f.2 k)) got in (
      (
        refl,
        (λ _. tt),
        (
          (ap (λ (m : Sat). m.0.count) came.1, ap (λ (m : Sat). m.0.copies) came.1),
          c.in_ok-copy_next.ensures.board,
          came,
        ),
      ),
      record { after = tt },
    )
