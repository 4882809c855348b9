use Rattle.std.proofs.Common.{arith}
use Rattle.ring_judge.proofs.{FirstLemmas.not_claim, MergeLemmas.none_more, MergeLemmas.one_found}
use Rattle.ring_judge.proofs.ring.merged.next_claim.Goals as goal

pub loop-at-preserved : goal.loop-at-preserved
loop-at-preserved c = let its = c.loop-at.invariant in record {
  ahead = omega (arith, its.ahead);
  none = none_more c.args.list.now c.args.from c.loop-at.at _ its.ahead c.loop-at-test.true its.none
      (not_claim _ c.in_default.not-Claimed);
}

pub returns-in-Claimed : goal.returns-in-Claimed
returns-in-Claimed c = let its = c.loop-at.invariant in
    one_found c.args.list.now c.args.from c.loop-at.at _ _ its.ahead c.loop-at-test.true its.none c.in-Claimed.is
