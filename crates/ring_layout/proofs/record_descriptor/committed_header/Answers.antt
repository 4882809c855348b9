use Rattle.std.proofs.Common.{◌+◌, ◌∙◌, w32}
use Rattle.std.proofs.lemmas.Int.{to_z-of_z, to_z_pos}
use Rattle.ring_layout.specs.Headers.{header}
use Rattle.ring_layout.proofs.record_descriptor.committed_header.Goals as goal

pub returns : goal.returns
returns c =
    c.pack_header.ensures
    ∙ λ i. header (to_z_pos w32 (8 + c.args.len) c.requires i) (to_z-of_z w32 c.args.type_id c.ranges.type_id i)
