use Rattle.std.proofs.Common.{arith}
use Rattle.std.proofs.lemmas.List.Elements.{All-more}
use Rattle.ring_judge.specs.Judged.{IsBehind}
use Rattle.ring_judge.proofs.ring.heads.skip_behind.Goals as goal

pub loop-at-preserved : goal.loop-at-preserved
loop-at-preserved c = record {
  within = omega arith;
  behind = All-more (IsBehind c.args.capacity c.args.tail) c.args.claims.now c.loop-at.at _ c.loop-at-test.true
      c.loop-at.invariant.behind (c.is_behind.ensures.0 c.if-is_behind.true);
}
