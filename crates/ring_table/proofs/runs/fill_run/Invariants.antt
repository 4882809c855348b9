use Rattle.std.proofs.Common.{◌≡◌, ◌*◌, take}
use Rattle.ring_table.specs.{Filling.Filling, Filling.IsSameTable, Runs.run_bytes, Runs.run_slots, Runs.AreMessages}
use Rattle.ring_table.specs.RunBodies.{messages_of}
use Rattle.ring_table.proofs.runs.fill_run.Given as goal

abbrev pub invariant-loop-message : goal.invariant-loop-message
invariant-loop-message l =
    let so_far = messages_of (take l.message-index l.messages) in
    Filling l.first l.k l.count (run_slots (messages_of l.messages)) l.seat.me.1
    × IsSameTable l.fn.seat l.seat
    × (run_bytes so_far ≡ 8 * l.k)
    × AreMessages l.capacity so_far
