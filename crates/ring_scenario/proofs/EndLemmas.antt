-- What a closed ring hands out is all committed messages but those that were taken.
use Rattle.std.proofs.Common.{◌≡◌, ◌∙◌, ℕ, List, ◌++◌, length, length-append, sym, ap, subst, arith}
use Rattle.ring_layout.specs.{declared.message.Claim.Claim, History.committed_of}
use Rattle.ring_words.specs.{Drain.AllSettled, Ring.Ring, Ring.Has}
use Rattle.ring_table.specs.declared.{view.View.View, claim.PlacedMessage.PlacedMessage, claim.StagedClaim.StagedClaim}
use Rattle.ring_table.specs.Passing.{AreSettled, placed_committed_of}
use Rattle.ring_rings.{specs.Closing.AreOrdered, specs.Closing.HandsOut, proofs.SentLemmas.placed_committed_of-append}
use Rattle.ring_service.proofs.FinishLemmas.{drained}
use Rattle.ring_scenario.specs.Closing.{TakesAllBut}

pub takes_all_but : (C start : ℕ) (p r : View) (rest : Ring) → HandsOut C start p r rest
    → AreSettled p.producer.claims → (count : ℕ)
    → ((h : List Claim) → Has rest h → AllSettled h → count ≡ length (committed_of h))
    → TakesAllBut C start p.producer.claims r.consumer.taken count
takes_all_but C start p r rest out settled count drains =
    let left = placed_committed_of out.left in
    let all = drained C start p r rest out settled count drains in
    let whole : placed_committed_of p.producer.claims ≡ r.consumer.taken ++ left =
    ap placed_committed_of out.whole ∙ (placed_committed_of-append out.passed out.left
    ∙ ap (λ taken. taken ++ left) (sym out.messages)) in
    let sizes = ap length whole ∙ length-append r.consumer.taken left in
    record { ordered = out.ordered; left = left; whole = whole; counted = omega (arith, all, sizes) }

-- the same of what is equal
pub renamed : (C D s t : ℕ) (cs ds : List StagedClaim) (taken gone : List PlacedMessage) (n m : ℕ) → C ≡ D → s ≡ t
    → cs ≡ ds → taken ≡ gone → m ≡ n → TakesAllBut C s cs taken n → TakesAllBut D t ds gone m
renamed C D s t cs ds taken gone n m same_C same_start same_claims same_taken same_count all = record {
  ordered = subst (λ c. AreOrdered c t ds) same_C (subst (λ k. AreOrdered C k ds) same_start
      (subst (AreOrdered C s) same_claims all.ordered));
  left = all.left;
  whole = ap placed_committed_of (sym same_claims) ∙ (all.whole ∙ ap (λ l. l ++ all.left) same_taken);
  counted = same_count ∙ all.counted;
}
