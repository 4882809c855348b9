use Rattle.std.proofs.Common.{◌-◌, ◌≤◌}
use Rattle.std.specs.Slots.{slots_items}
use Rattle.ring_table.specs.Walk.{IsCopied}
use Rattle.ring_table.proofs.picture.copy_range.Given as goal

abbrev pub invariant-loop-k : goal.invariant-loop-k
invariant-loop-k l = (l.first ≤ l.k)
    × IsCopied l.first (l.k - l.first) (slots_items l.closed.slots) l.fn.words.items l.words.items
