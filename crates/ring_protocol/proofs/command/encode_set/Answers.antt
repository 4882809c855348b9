use Rattle.ring_protocol.specs.Command.{Set, with_id}
use Rattle.ring_protocol.proofs.Written.{encodes, is_u32, is_u64, is_i64, set_text}
use Rattle.ring_protocol.proofs.command.encode_set.Goals as goal

pub returns : goal.returns
returns c =
    encodes (with_id c.args.correlation (Set c.args.id c.args.value)) _ _ _ _
    tt
    (c.ranges.correlation.fits, (c.ranges.id.fits, c.ranges.value))
    (set_text c.args.correlation c.args.id c.args.value _ _ _ (is_u64 _ _ c.to_le_bytes.ensures)
    (is_u32 _ _ c.to_le_bytes-2.ensures) (is_i64 _ _ c.ranges.value c.to_le_bytes-3.ensures))
    c.write_fields.ensures
