use Rattle.ring_protocol.proofs.Lengths.{longest}
use Rattle.ring_protocol.proofs.laws.longest_command.Goals as goal

pub returns : goal.returns
returns c = longest
