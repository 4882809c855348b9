use Rattle.ring_ends.proofs.{CopyLemmas.copied_one, CopyLemmas.same_borrow, StopLemmas.reads_on}
use Rattle.ring_ends.proofs.consumer.ConsumerEnd.copy_one.Goals as goal

pub returns-clause-borrow : goal.returns-clause-borrow
returns-clause-borrow g c = same_borrow _ _ _ _ _ _ c.controlled_read.ensures.does.1

pub returns-clause-does : goal.returns-clause-does
returns-clause-does g c =
    let read = c.controlled_read.ensures in
    let copied = copied_one _ _ _ _ _ c.requires.waits read.ends.bytes read.ends.blocked read.does.1 in
    (read.does.0, (reads_on _ _ _ _ _ _ _ read.does.1, copied))
