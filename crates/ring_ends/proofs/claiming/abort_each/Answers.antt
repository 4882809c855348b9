use Rattle.std.proofs.Common.{◌∙◌, [], ap, subst, sym}
use Rattle.ring_table.specs.Views.{with_claims}
use Rattle.ring_rings.proofs.HoldingLemmas.{one_open}
use Rattle.ring_ends.specs.{Claims.claims_in, Claiming.aborted_view, Claiming.AreAllOpen}
use Rattle.ring_ends.proofs.{ClaimLemmas.aborted_last, ClaimLemmas.all_last, EndLemmas.one_ring, EndLemmas.open_of}
use Rattle.ring_ends.proofs.claiming.abort_each.Goals as goal

pub loop-claim-preserved : goal.loop-claim-preserved
loop-claim-preserved g c =
    let was = c.loop-claim.invariant in
    let p = c.loop-claim.end in
    let q = c.abort.new.self in
    let front = claims_in c.pop.new.self in
    let t = c.in-Some.claim in
    let items = c.in-Some.ensures in
    let does = c.abort.ensures.does in
    record {
      one_ring = one_ring c.args.end.now p q was.one_ring does.0;
      held = open_of p q _ does.0 (all_last p.capacity p.view q.view front t c.abort.ensures.others does.1
          (subst (AreAllOpen p.capacity p.view) items was.held));
      view = ap (aborted_view front) does.1
          ∙ ap (λ cs. with_claims cs p.view) (sym (aborted_last front t p.view.producer.claims))
          ∙ ap (λ l. aborted_view l p.view) (sym items) ∙ was.view;
    }

pub abort-requires : goal.abort-requires
abort-requires g c =
    let p = c.loop-claim.end in
    one_open p.capacity p.view p.view (claims_in c.pop.new.self) [] c.in-Some.claim
    (subst (AreAllOpen p.capacity p.view) c.in-Some.ensures c.loop-claim.invariant.held).are
