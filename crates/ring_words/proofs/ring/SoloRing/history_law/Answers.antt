use Rattle.std.proofs.Common.{subst}
use Rattle.ring_words.{specs.Ring.Ring, specs.Ring.IsRing, proofs.UniqueLemmas.alike, proofs.UniqueLemmas.open_in_each}
use Rattle.ring_words.proofs.ring.SoloRing.history_law.Goals as goal

pub returns : goal.returns
returns c =
    let ok = subst (λ (r : Ring). IsRing r) c.self.view_is c.self.invariant.0 in
    record {
      some = ok.history;
      one = λ h g a b. (alike c.args.self.now h g ok a b).messages;
      claims =
          λ t o h has. open_in_each c.args.self.now t h ok o has;
    }
