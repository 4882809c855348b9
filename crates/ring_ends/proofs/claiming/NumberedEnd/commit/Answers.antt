use Rattle.std.proofs.Common.{refl, subst, sym, ℕ}
use Rattle.ring_rings.specs.Ring.{SendsClaimedAt}
use Rattle.ring_ends.specs.Claiming.{AreAllOpen, NumberedClaims}
use Rattle.ring_ends.proofs.{ClaimLemmas.all_less, ClaimLemmas.number_is, ClaimLemmas.numbered_open, EndLemmas.open_of}
use Rattle.ring_ends.proofs.claiming.NumberedEnd.commit.Goals as goal

pub commit-requires : goal.commit-requires
commit-requires g c = let v = c.self.inside.end.view in
    numbered_open _ v v _ _ _ c.in-Some.ensures.takes.claim c.self.invariant.are

pub invariant_of-self-2 : goal.invariant_of-self-2
invariant_of-self-2 g c =
    let p = c.self.inside.end in
    let q = c.commit.new.self in
    let t = c.in-Some.ensures.takes in
    let does = c.commit.ensures.does in
    open_of p q _ does.0
    (subst (AreAllOpen p.capacity q.view) (sym t.rest)
    (all_less _ p.view q.view _ _ _ _ refl t.claim c.commit.ensures.others does.1 c.self.invariant))

pub take-requires : goal.take-requires
take-requires g c = c.self.invariant.are.apart

pub returns-clause-sent : goal.returns-clause-sent
returns-clause-sent g c =
    let v = c.self.inside.end.view in
    let w = c.commit.new.self.view in
    let here = number_is _ v v _ _ _ c.in-Some.ensures.takes.claim c.self.invariant.are in
    let own = subst (λ (n : ℕ). SendsClaimedAt n v w) here c.commit.ensures.sent in
    (subst (λ (p : NumberedClaims). SendsClaimedAt c.args.number p.end.view w) c.self.view_is own, tt)
