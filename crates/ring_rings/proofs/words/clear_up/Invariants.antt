use Rattle.std.proofs.Common.{◌≡◌, ◌+◌, ◌*◌}
use Rattle.ring_table.specs.{Seats.IsSameSeat, Views.cleared_to, Views.with_consumer}
use Rattle.ring_rings.proofs.words.clear_up.Given as goal

abbrev pub invariant-loop-k : goal.invariant-loop-k
invariant-loop-k l = record {
  seat : IsSameSeat l.initial.seat l.seat;
  view : l.seat.me.0 ≡ with_consumer (cleared_to (l.head + 32 * l.k) l.initial.seat.me.0.consumer) l.initial.seat.me.0;
}

abbrev pub invariant-loop-j : goal.invariant-loop-j
invariant-loop-j l = record {
  seat : IsSameSeat l.initial.seat l.seat;
  view : l.seat.me.0 ≡ with_consumer (cleared_to (l.head + 8 * l.j) l.initial.seat.me.0.consumer) l.initial.seat.me.0;
}
