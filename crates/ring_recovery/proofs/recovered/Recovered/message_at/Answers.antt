use Rattle.std.proofs.Common.{rules, ◌≡◌, true, arith}
use Rattle.ring_layout.proofs.CapacityLemmas.{capacity_blocks}
use Rattle.ring_snapshot.specs.RingRecords.{is_length}
use Rattle.ring_recovery.proofs.HeaderLemmas.{ends_inside}
use Rattle.ring_recovery.proofs.recovered.Recovered.message_at.Goals as goal

pub new-requires : goal.new-requires
new-requires c =
    let ring = c.args.self.now in
    let n = c.unsigned_abs-length.result in
    let fits : is_length ring.capacity ring.tail c.args.at n ≡ true = search rules in
    let inside = ends_inside ring.capacity ring.tail c.args.at n fits in
    let blocks = capacity_blocks ring.capacity ring.lawful in
    omega (arith, inside.0, inside.1, blocks, ring.bodies, c.byte_index.ensures)
