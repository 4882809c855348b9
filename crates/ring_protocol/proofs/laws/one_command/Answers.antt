use Rattle.ring_protocol.proofs.ReadCommands.{one}
use Rattle.ring_protocol.proofs.laws.one_command.Goals as goal

pub returns : goal.returns
returns c = one
