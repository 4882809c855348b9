use Rattle.ring_ends.proofs.CopyLemmas.{received_next}
use Rattle.ring_ends.proofs.consumer.ConsumerEnd.read_into.Goals as goal

pub returns-clause-received : goal.returns-clause-received
returns-clause-received g c =
    received_next c.args.self.now c.copy_next.new.self _ _ _ c.copy_next.result c.copy_next.ensures.does.1.1
