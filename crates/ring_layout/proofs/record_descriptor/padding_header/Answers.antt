use Rattle.std.proofs.Common.{◌∙◌, ap, w32}
use Rattle.std.proofs.lemmas.Int.{to_z_pos}
use Rattle.ring_layout.specs.Headers.{header, padding_type}
use Rattle.ring_layout.proofs.record_descriptor.padding_header.Goals as goal

pub returns : goal.returns
returns c = c.pack_header.ensures ∙ ap (λ n. header n padding_type) (to_z_pos w32 c.args.bytes c.requires)
