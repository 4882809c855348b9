use Rattle.std.proofs.Common.{◌∙◌}
use Rattle.ring_protocol.proofs.Written.{command_bytes, command_read_again}
use Rattle.ring_protocol.proofs.laws.command_round_trip.Goals as goal

pub returns-clause-command : goal.returns-clause-command
returns-clause-command c = command_read_again

pub returns-clause-bytes : goal.returns-clause-bytes
returns-clause-bytes c = λ t body command old new n s w. command_bytes command old new n w ∙ s.spelled
