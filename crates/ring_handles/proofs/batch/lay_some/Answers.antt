use Rattle.ring_ends.proofs.StopLemmas.{reads_on}
use Rattle.ring_handles.proofs.BatchLemmas.{laid_none, same_borrow, some_taken}
use Rattle.ring_handles.proofs.batch.lay_some.Goals as goal

pub returns-clause-borrow : goal.returns-clause-borrow
returns-clause-borrow g c = same_borrow _ _ _ _ _ _ c.requires.fresh.0 c.controlled_read.ensures.does.1

pub returns-clause-reads : goal.returns-clause-reads
returns-clause-reads g c = reads_on _ _ _ _ _ _ _ c.controlled_read.ensures.does.1

pub returns-clause-some : goal.returns-clause-some
returns-clause-some g c =
    let read = c.controlled_read.ensures in
    some_taken _ _ _ _ _ _ c.requires.fresh.0 read.ends read.does.1

pub returns-clause-none : goal.returns-clause-none
returns-clause-none g c =
    let read = c.controlled_read.ensures in
    laid_none _ _ _ _ _ _ c.requires.fresh read.ends read.does.1
