use Rattle.std.proofs.Common.{◌≡◌, ◌*◌, length}
use Rattle.ring_table.specs.{declared.claim.PlacedMessage.PlacedMessage, Seats.IsSameSeat}
use Rattle.ring_rings.specs.ReadingSteps.{CopiesWords, HasGotLast, OnlyLoads}
use Rattle.ring_rings.proofs.words.InWordsBodies.load_body.Given as goal

abbrev pub invariant-loop-k : goal.invariant-loop-k
invariant-loop-k l = record {
  seat : IsSameSeat l.initial.seat l.seat;
  rest : OnlyLoads l.initial.seat.me.0 l.seat.me.0;
  copied : (m : PlacedMessage) → HasGotLast m l.initial.seat.me.0 → m.place ≡ l.place → length m.message.body ≡ l.len
      → CopiesWords l.capacity m (4 * l.k) l.initial.seat.me.0 l.scratch l.seat.me.0;
}

abbrev pub invariant-loop-j : goal.invariant-loop-j
invariant-loop-j l = record {
  seat : IsSameSeat l.fn.seat l.seat;
  rest : OnlyLoads l.fn.seat.me.0 l.seat.me.0;
  copied : (m : PlacedMessage) → HasGotLast m l.fn.seat.me.0 → m.place ≡ l.place → length m.message.body ≡ l.len
      → CopiesWords l.capacity m l.j l.fn.seat.me.0 l.scratch l.seat.me.0;
}
