use Rattle.std.proofs.Common.{◌∙◌, arith}
use Rattle.ring_ends.{specs.Receivers.by_number, proofs.HeldLemmas.all_gone, proofs.LeavingLemmas.left_on}
use Rattle.ring_ends.proofs.board.StandaloneBoard.join_all.Goals as goal

pub loop-index-preserved : goal.loop-index-preserved
loop-index-preserved c =
    let was = c.loop-index.invariant in
    let first = c.args.self.now in
    let old = c.loop-index.self in
    let new = c.leave.new.self in
    let e = c.leave.ensures in (
      left_on (by_number first.transmitter first.receivers) _ c.loop-index.index (by_number old.transmitter old.receivers) was.0
          c.loop-index-test.true (by_number new.transmitter new.receivers) c.leave.result e.same e.left e.free,
      e.board ∙ was.1,
    )

pub returns-clause-shares : goal.returns-clause-shares
returns-clause-shares c =
    let none = (all_gone _ _ _ _ _ _ _ c.loop-index.invariant.0 c.loop-index-test.false).0 in
    let sum = c.loop-index.self.shares in
    omega (arith, none, sum)

pub returns-clause-left : goal.returns-clause-left
returns-clause-left c = (all_gone _ _ _ _ _ _ _ c.loop-index.invariant.0 c.loop-index-test.false).1
