use Rattle.std.proofs.Common.{subst, arith}
use Rattle.ring_words.{specs.Ring.Ring, specs.Ring.IsRing, proofs.DrainLemmas.drained, proofs.DrainLemmas.drained_whole}
use Rattle.ring_words.proofs.ring.SoloRing.drain.Goals as goal

pub returns-clause-drained : goal.returns-clause-drained
returns-clause-drained c = λ h has.
    let ok = subst (λ (r : Ring). IsRing r) c.self.view_is c.self.invariant.0 in
    drained _ _ c.args.self.now _ _ _ _ (omega arith) ok c.read_across.ensures.blocked h has c.read_across.ensures.reads

pub returns-clause-whole : goal.returns-clause-whole
returns-clause-whole c = λ h has settled. drained_whole h _ _ settled (returns-clause-drained c h has)
