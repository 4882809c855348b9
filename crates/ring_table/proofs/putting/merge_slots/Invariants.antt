use Rattle.std.proofs.Common.{List, ℕ}
use Rattle.ring_layout.specs.History.{overwritten}
use Rattle.ring_table.specs.{Filling.IsSameTable, Filling.Putting, Filling.Takes, SlotSteps.words_of}
use Rattle.ring_table.proofs.putting.merge_slots.Given as goal

abbrev pub invariant-loop-j : goal.invariant-loop-j
invariant-loop-j l = record {
  seat : IsSameTable l.fn.seat l.seat;
  putting : (body : List ℕ) → Takes l.first l.len body l.fn.seat.me.1
      → Putting l.first l.j (words_of l.len) body (overwritten l.offset l.bytes body) l.seat.me.1;
}

abbrev pub invariant-loop-k : goal.invariant-loop-k
invariant-loop-k l = record {
  seat : IsSameTable l.fn.seat l.seat;
  putting : (body : List ℕ) → Takes l.first l.len body l.fn.seat.me.1
      → Putting l.first l.k (words_of l.len) body (overwritten l.offset l.bytes body) l.seat.me.1;
}

abbrev pub invariant-loop-i : goal.invariant-loop-i
invariant-loop-i l = record {
  seat : IsSameTable l.fn.seat l.seat;
  putting : (body : List ℕ) → Takes l.first l.len body l.fn.seat.me.1
      → Putting l.first l.i (words_of l.len) body (overwritten l.offset l.bytes body) l.seat.me.1;
}
