use Rattle.std.proofs.Common.{◌∙◌}
use Rattle.ring_protocol.proofs.Written.{reply_bytes, reply_read_again}
use Rattle.ring_protocol.proofs.laws.reply_round_trip.Goals as goal

pub returns-clause-reply : goal.returns-clause-reply
returns-clause-reply c = reply_read_again

pub returns-clause-bytes : goal.returns-clause-bytes
returns-clause-bytes c = λ t body r old new n s w. reply_bytes r old new n w ∙ s.spelled
