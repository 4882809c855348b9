use Rattle.std.proofs.Common.{◌+◌, length}
use Rattle.ring_table.specs.{SlotSteps.words_of, Staged.headed, Filling.Filling, Filling.IsSameTable}
use Rattle.ring_table.proofs.bodies.fill_slots.Given as goal

abbrev pub invariant-loop-k : goal.invariant-loop-k
invariant-loop-k l = Filling l.first (l.k + 1) (words_of (8 + length l.body)) (headed l.header l.body) l.seat.me.1
    × IsSameTable l.fn.seat l.seat
