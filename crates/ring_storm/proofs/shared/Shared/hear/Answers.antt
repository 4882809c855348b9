use Rattle.std.proofs.Common.{◌∙◌, refl}
use Rattle.ring_storm.proofs.TurnLemmas.{hears_more, longer, same_length}
use Rattle.ring_storm.proofs.shared.Shared.hear.Goals as goal

pub loop-init : goal.loop-init
loop-init g c = record { receiver = c.requires; grows = same_length _; producer = refl }

pub loop-preserved : goal.loop-preserved
loop-preserved g c = record {
  receiver = c.poll.ensures.receiver;
  grows = longer _ _ _ c.loop.invariant.grows (hears_more _ _ _ _ c.poll.ensures.heard);
  producer = c.poll.ensures.producer ∙ c.loop.invariant.producer;
}
