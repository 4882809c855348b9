use Rattle.std.proofs.Common.{◌≡◌}
use Rattle.ring_board.proofs.BodyLemmas.{LoadedWords}
use Rattle.ring_board.proofs.board.Board.load_answered.Given as goal

abbrev pub invariant-loop-k : goal.invariant-loop-k
invariant-loop-k l = record {
  table : l.seat.table_id ≡ l.initial.seat.table_id;
  id : l.seat.id ≡ l.initial.seat.id;
  loaded : LoadedWords l.raw.place l.k l.out l.initial.seat.me l.seat.me;
}
