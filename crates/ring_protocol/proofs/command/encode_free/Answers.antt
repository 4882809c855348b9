use Rattle.ring_protocol.specs.Command.{Free, with_id}
use Rattle.ring_protocol.proofs.Written.{encodes, is_u32, is_u64, free_text}
use Rattle.ring_protocol.proofs.command.encode_free.Goals as goal

pub returns : goal.returns
returns c =
    encodes (with_id c.args.correlation (Free c.args.id)) _ _ _ _
    tt
    (c.ranges.correlation.fits, c.ranges.id.fits)
    (free_text c.args.correlation c.args.id _ _ (is_u64 _ _ c.to_le_bytes.ensures) (is_u32 _ _ c.to_le_bytes-2.ensures))
    c.write_fields.ensures
