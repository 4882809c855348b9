use Rattle.ring_protocol.proofs.ReadReplies.{one}
use Rattle.ring_protocol.proofs.laws.one_reply.Goals as goal

pub returns : goal.returns
returns c = one
