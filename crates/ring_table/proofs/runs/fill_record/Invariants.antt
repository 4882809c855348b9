use Rattle.std.proofs.Common.{ℕ, List, ◌+◌, ◌*◌}
use Rattle.ring_table.specs.{Filling.Filling, Filling.IsSameTable, RunBodies.LiesAt, Staged.headed}
use Rattle.ring_table.proofs.runs.fill_record.Given as goal

abbrev pub invariant-loop-i : goal.invariant-loop-i
invariant-loop-i l = ((run : List ℕ) → LiesAt (8 * l.k) (headed l.header l.body) run
    → Filling l.first l.k l.count run l.fn.seat.me.1 → Filling l.first (l.k + 1 + l.i) l.count run l.seat.me.1)
    × IsSameTable l.fn.seat l.seat
