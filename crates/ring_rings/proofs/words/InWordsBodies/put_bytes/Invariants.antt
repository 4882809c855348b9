use Rattle.std.proofs.Common.{◌≡◌, ℕ, ◌-◌, ◌≤◌, List, length, take}
use Rattle.ring_table.specs.{Changes.changed, Seats.IsSameSeat, Views.with_claims}
use Rattle.ring_rings.specs.Bodies.{loaded, put_at}
use Rattle.ring_rings.proofs.words.InWordsBodies.put_bytes.Given as goal

abbrev pub invariant-loop-done : goal.invariant-loop-done
invariant-loop-done l = record {
  most : l.done ≤ length l.bytes;
  seat : IsSameSeat l.initial.seat l.seat;
  loads : List (ℕ × ℕ);
  view : l.seat.me.0
      ≡ with_claims (changed l.place (put_at l.offset (take l.done l.bytes)) l.initial.seat.me.0.producer.claims)
      (loaded loads l.initial.seat.me.0);
}

abbrev pub decreases-loop-done : goal.decreases-loop-done
decreases-loop-done l = length l.bytes - l.done
