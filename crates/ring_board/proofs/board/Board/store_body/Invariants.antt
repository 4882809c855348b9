use Rattle.std.proofs.Common.{◌≡◌}
use Rattle.ring_board.specs.{Records.first_words, Views.at_stage, TransmitterSteps.after_words}
use Rattle.ring_board.proofs.board.Board.store_body.Given as goal

abbrev pub invariant-loop-k : goal.invariant-loop-k
invariant-loop-k l = record {
  table : l.seat.table_id ≡ l.initial.seat.table_id;
  id : l.seat.id ≡ l.initial.seat.id;
  me : l.seat.me
      ≡ (
        at_stage l.initial.seat.me.0 (after_words l.initial.seat.me.0.stage (first_words l.k l.body)),
        l.initial.seat.me.1,
      );
}
