use Rattle.std.proofs.Common.{◌≡◌, length}
use Rattle.ring_table.specs.{declared.claim.PlacedMessage.PlacedMessage, Seats.IsSameSeat}
use Rattle.ring_rings.specs.ReadingSteps.{HasGotLast, LoadsWords, OnlyLoads}
use Rattle.ring_rings.proofs.words.InWordsBodies.skip_body.Given as goal

abbrev pub invariant-loop-k : goal.invariant-loop-k
invariant-loop-k l = record {
  seat : IsSameSeat l.initial.seat l.seat;
  rest : OnlyLoads l.initial.seat.me.0 l.seat.me.0;
  loaded : (m : PlacedMessage) → HasGotLast m l.initial.seat.me.0 → m.place ≡ l.place → length m.message.body ≡ l.len
      → LoadsWords l.capacity m l.k l.initial.seat.me.0 l.seat.me.0;
}
