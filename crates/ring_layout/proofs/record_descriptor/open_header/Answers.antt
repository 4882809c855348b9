use Rattle.std.proofs.Common.{◌+◌, ◌∙◌, w32}
use Rattle.std.proofs.lemmas.Int.{to_z-of_z}
use Rattle.ring_layout.{specs.Headers.header, proofs.HeaderLemmas.negated_length}
use Rattle.ring_layout.proofs.record_descriptor.open_header.Goals as goal

pub returns : goal.returns
returns c =
    c.pack_header.ensures
    ∙ λ i. header (negated_length (8 + c.args.len) c.requires i) (to_z-of_z w32 c.args.type_id c.ranges.type_id i)
