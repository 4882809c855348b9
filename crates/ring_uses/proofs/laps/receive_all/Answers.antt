use Rattle.std.proofs.Common.{◌≡◌, ◌∙◌, ◌+◌, ◌%◌, ◌^◌, ap, subst, sym, Ok, Option, Result}
use Rattle.ring_board.specs.declared.{board.Copied.Copied, board.CopyReceiver.CopyReceiver, fault.Lapped.Lapped}
use Rattle.ring_board.specs.{Board.copied, Board.lapped_count_of, Board.CopiesNext, Seats.IsReceiverOf}
use Rattle.ring_uses.specs.{Laps.messages_of, Laps.AreWithin, Numbers.sum_of}
use Rattle.ring_uses.proofs.LapLemmas.{sum_next, within_next}
use Rattle.ring_uses.proofs.laps.receive_all.Goals as goal
use Rattle.ring_uses.proofs.laps.receive_all.Goals.{in-Ok-Some, in-Err}

pub loop-preserved : goal.loop-preserved
loop-preserved c =
    let old = c.loop.receiver in
    let new = c.receive.follows.lender-at-none in
    let h = c.receive.follows.holds-at-none in
    let within = within_next old new c.receive.result h.0 c.loop.invariant.1 in
    let after = λ (r : CopyReceiver). IsReceiverOf c.args.board.now r × AreWithin (lapped_count_of r) (copied r)
    × (c.match-receive.sum ≡ sum_of (messages_of (copied r))) in
    elim c.match-receive.branch [
      | in-Ok-Some w ↦
          let got = subst (λ (r : Result (Option Copied) Lapped). CopiesNext old new r)
          (w.in-Ok-Some.is ∙ ap Ok w.in-Ok-Some.field-0-is) h.0 in
          let sum = w.sum-is ∙ ap (λ n. (c.loop.sum + n) % 2 ^ 64) w.number_of-sum.ensures
          ∙ sum_next old new w.in-Ok-Some.copied c.loop.sum got c.loop.invariant.2 in
          subst after (sym w.receiver-is) (h.1, within, sum)
      | in-Err w ↦
          let got = subst (λ (r : Result (Option Copied) Lapped). CopiesNext old new r) w.in-Err.is h.0 in
          let sum = w.sum-is ∙ c.loop.invariant.2 ∙ sym (ap (λ l. sum_of (messages_of l)) got.0) in
          subst after (sym w.receiver-is) (h.1, within, sum)
    ]
