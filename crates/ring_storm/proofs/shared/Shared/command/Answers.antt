use Rattle.std.proofs.Common.{rules}
use Rattle.ring_storm.specs.Storming.{history_of}
use Rattle.ring_storm.proofs.shared.Shared.command.Goals as goal

-- its turn began at what the client had done before
pub tell_answered-requires : goal.tell_answered-requires
tell_answered-requires g c = record { heard = (history_of c.args.client.now, search rules) }
