use Rattle.std.proofs.Common.{◌≡◌, ◌-◌, ◌≤◌, ◌++◌, length, take}
use Rattle.ring_table.specs.RunBodies.{messages_of}
use Rattle.ring_ends.specs.{Claiming.KeepsNumbered, End.sent}
use Rattle.ring_handles.proofs.writing_batch.write_messages.Given as goal

abbrev pub invariant-loop-written : goal.invariant-loop-written
invariant-loop-written g l = (sent l.end.end ≡ sent l.fn.end.end ++ messages_of (take l.written l.messages))
    × (l.written ≤ length l.messages)
    × KeepsNumbered l.fn.end l.end

abbrev pub decreases-loop-written : goal.decreases-loop-written
decreases-loop-written g l = length l.messages - l.written
