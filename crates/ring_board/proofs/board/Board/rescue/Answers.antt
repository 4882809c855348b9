use Rattle.std.proofs.Common.{ℕ, refl, subst, arith}
use Rattle.std.specs.Slots.{slots_items}
use Rattle.ring_board.{specs.Closing.IsClosed, proofs.PictureLemmas.closed_as, proofs.PictureLemmas.closed_copy}
use Rattle.ring_board.proofs.board.Board.rescue.Goals as goal

pub returns-clause-closed : goal.returns-clause-closed
returns-clause-closed c =
    let b = c.args.self in let t = c.args.transmitter in let e : ℕ = b.table.shared.key.start in let wide = b.wide.2 in
    let closed = closed_as b.table.shared.key.capacity e t.seat.id t.seat.me.0 _ _ t.idle.0
    c.close_with-closed.ensures.values.2 in (
      refl,
      closed_copy b.capacity e t.seat.me.0.sent
          (slots_items c.close_with-closed.result.words) c.copy_words.new.words.items
          (λ i lt. c.copy_words.ensures.words i (omega arith))
          (subst (λ (n : ℕ). IsClosed n e t.seat.me.0.sent (slots_items c.close_with-closed.result.words)) b.key
          closed.2),
    )

pub returns-clause-runs : goal.returns-clause-runs
returns-clause-runs c =
    let t = c.args.transmitter in
    (closed_as c.args.self.table.shared.key.capacity c.args.self.table.shared.key.start t.seat.id t.seat.me.0 _ _
    t.idle.0 c.close_with-closed.ensures.values.2).3
