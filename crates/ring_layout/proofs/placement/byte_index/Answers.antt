use Rattle.std.proofs.Common.{◌∙◌, ap, bit_and}
use Rattle.ring_layout.proofs.CapacityLemmas.{mask_is_mod}
use Rattle.ring_layout.proofs.placement.byte_index.Goals as goal

pub returns : goal.returns
returns c = ap (bit_and c.args.position) c.from.ensures
    ∙ mask_is_mod c.args.capacity c.args.position c.ranges.capacity.fits c.requires
