use Rattle.std.proofs.Common.{◌≡◌, ◌*◌, length}
use Rattle.ring_table.specs.Filling.{Copying, IsSameTable}
use Rattle.ring_table.proofs.bodies.copy_slots.Given as goal

abbrev pub invariant-loop-turn : goal.invariant-loop-turn
invariant-loop-turn l = Copying l.first (4 * l.turn) l.count l.scratch l.fn.seat.me.1 l.seat.me.1
    × IsSameTable l.fn.seat l.seat × (length l.scratch ≡ length l.fn.scratch)

abbrev pub invariant-loop-k : goal.invariant-loop-k
invariant-loop-k l = Copying l.first l.k l.count l.scratch l.fn.seat.me.1 l.seat.me.1 × IsSameTable l.fn.seat l.seat
    × (length l.scratch ≡ length l.fn.scratch)
