use Rattle.std.proofs.Common.{length, ap, sym, ◌∙◌}
use Rattle.std.proofs.lemmas.List.FromFn.{length-map-range_with_len}
use Rattle.ring_counters.specs.Records.{byte_at}
use Rattle.ring_recovery.proofs.body.Body.len.Goals as goal

pub returns : goal.returns
returns c = sym (length-map-range_with_len (byte_at c.self.inside.slots.now) c.self.inside.from c.self.inside.left)
    ∙ ap length c.self.view_is
