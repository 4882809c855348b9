use Rattle.std.proofs.Common.{◌≡◌, ℕ, []}
use Rattle.ring_board.specs.{declared.shared.view.Stage.TheVariants.Reading, Receiving.CopiedWords}
use Rattle.ring_board.proofs.board.Board.copy_body.Given as goal

abbrev pub invariant-loop-k : goal.invariant-loop-k
invariant-loop-k l = record {
  table : l.seat.table_id ≡ l.initial.seat.table_id;
  id : l.seat.id ≡ l.initial.seat.id;
  copied : (w : ℕ) → l.initial.seat.me.0.stage ≡ Reading w [] → CopiedWords w l.k l.scratch l.initial.seat.me l.seat.me;
}
