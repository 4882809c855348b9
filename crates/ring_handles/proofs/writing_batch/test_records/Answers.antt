use Rattle.std.proofs.Common.{arith}
use Rattle.ring_handles.proofs.WritingLemmas.{upto_next}
use Rattle.ring_handles.proofs.writing_batch.test_records.Goals as goal

pub loop-at-preserved : goal.loop-at-preserved
loop-at-preserved c =
    let tested = c.in_ok-at.ensures.next in
    let is = tested.0 in
    let inside = is.inside in
    let goes = tested.1 in (
      upto_next c.args.capacity c.args.records.now c.loop-at.at c.in_ok-at.at c.loop-at.invariant.0 is goes,
      c.loop-at.invariant.1,
      omega arith,
    )
