use Rattle.std.proofs.Common.{◌∙◌, ap, subst, sym}
use Rattle.ring_ends.specs.{Claims.claims_in, Claiming.AreAllOpen, Claiming.NumberedClaims}
use Rattle.ring_ends.proofs.{ClaimLemmas.all_both, EndLemmas.open_of}
use Rattle.ring_ends.proofs.claiming.NumberedEnd+ManyToOne+B.join.Goals as goal

pub invariant_of-self-2 : goal.invariant_of-self-2
invariant_of-self-2 g c =
    let mine = c.self.inside in
    let its = c.other.inside in
    let q = c.join.new.self in
    let cap = ap (λ (n : NumberedClaims). n.end.capacity) c.other.view_is ∙ c.requires.1
    ∙ sym (ap (λ (n : NumberedClaims). n.end.capacity) c.self.view_is) in
    open_of mine.end q _ c.join.ensures.does.0
    (subst (AreAllOpen mine.end.capacity q.view) (sym c.in-Ok.ensures.appended)
    (all_both mine.end.capacity mine.end.view its.end.view q.view (claims_in mine.claims) (claims_in its.claims)
    c.join.ensures.keeps c.join.ensures.does.1 c.self.invariant
    (subst (λ C. AreAllOpen C its.end.view (claims_in its.claims)) cap c.other.invariant)))
