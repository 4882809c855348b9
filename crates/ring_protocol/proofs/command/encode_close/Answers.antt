use Rattle.ring_protocol.specs.Command.{Close, with_id}
use Rattle.ring_protocol.proofs.Written.{encodes, is_u64, close_text}
use Rattle.ring_protocol.proofs.command.encode_close.Goals as goal

pub returns : goal.returns
returns c =
    encodes (with_id c.args.correlation (Close c.args.owner)) _ _ _ _
    tt
    (c.ranges.correlation.fits, c.ranges.owner.fits)
    (close_text c.args.correlation c.args.owner _ _ (is_u64 _ _ c.to_le_bytes.ensures)
    (is_u64 _ _ c.to_le_bytes-2.ensures))
    c.write_fields.ensures
