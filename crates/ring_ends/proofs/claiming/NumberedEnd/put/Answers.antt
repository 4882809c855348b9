use Rattle.std.proofs.Common.{◌∙◌, ap, length, subst, sym}
use Rattle.ring_rings.specs.Seats.{IsOpenAt}
use Rattle.ring_ends.{specs.End.End, proofs.ClaimLemmas.numbered_open, proofs.ClaimLemmas.put_count}
use Rattle.ring_ends.proofs.{EndLemmas.open_of, SlotLemmas.put_back_open, SlotLemmas.put_back_same}
use Rattle.ring_ends.proofs.claiming.NumberedEnd.put.Goals as goal

pub take-requires : goal.take-requires
take-requires g c = c.self.invariant.are.apart

pub put-put-requires : goal.put-put-requires
put-put-requires g c = let v = c.self.inside.end.view in
    numbered_open _ v v _ _ _ c.in-Some.ensures.takes.claim c.self.invariant.are

pub invariant_of-self-2 : goal.invariant_of-self-2
invariant_of-self-2 g c =
    let p = c.self.inside.end in
    let q = c.put-put.new.self in
    let put = c.put-put.ensures in
    let here = subst (λ C. IsOpenAt C q.view c.put-put.new.claim) (ap (λ (e : End). e.capacity) put.does.0) put.claim.1 in
    let found = c.in-Some.ensures in
    open_of p q _ put.does.0 (record {
      are = put_back_open _ _ _ _ _ _ _ found c.put_back.ensures put.claim.0 p.capacity p.view q.view put.others here
          c.self.invariant.are;
      all = put_count _ _ _ _ p.view q.view put.does.1 ∙ c.self.invariant.all
          ∙ sym (ap length (put_back_same _ _ _ _ _ _ _ found c.put_back.ensures put.claim.0));
    })
