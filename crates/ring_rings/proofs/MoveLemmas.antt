-- The only producer moves the tail.
use Rattle.std.proofs.Common.{◌≡◌, ℕ, ◌%◌, ℤ, [], None, false, sym, ap, ◌∙◌, subst, arith}
use Rattle.ring_layout.specs.{History.span, Places.end_after, declared.admission.Admission.Admission}
use Rattle.ring_layout.proofs.PlaceLemmas.{span_bounds}
use Rattle.ring_table.specs.{declared.claim.StagedClaim.StagedClaim, declared.view.View.View, Changes.moved_claim}
use Rattle.ring_table.specs.{ProducerSteps.EndBelow, ProducerSteps.MovesOwnTail, Views.with_claim}
use Rattle.ring_rings.specs.Claiming.{looked, tail_refusal_of, SeesRoom}
use Rattle.ring_rings.specs.Making.{FindsRoom, GoesBehind, Moves, MovesBehind}
use Rattle.ring_rings.proofs.NewestLemmas.{same_span}

-- room was found, and then the tail was moved after the claim
pub moves_alone : (C tail : ℕ) (type_id : ℤ) (len : ℕ) (a : Admission) (v u w : View)
    → tail_refusal_of C tail type_id len ≡ None → GoesBehind C tail type_id len a → a.end % 8 ≡ 0
    → v.producer.seen_tail ≡ tail → FindsRoom C a.tail a.end v u → MovesOwnTail C a.end u w
    → MovesBehind false C type_id len v a w
moves_alone C tail type_id len a v u w refusal admitted whole at found told =
    let seen : u.producer.seen_tail ≡ tail = ap (λ (x : View). x.producer.seen_tail) found.view ∙ at in
    let claim : StagedClaim = moved_claim C u.producer.seen_tail told.type_id told.len in
    let end : ℕ = end_after C tail (span len) in
    let spans = span_bounds len in
    let told_spans = span_bounds told.len in
    let moves : Moves C tail type_id len [] v a w = record {
      refusal = refusal;
      admitted = admitted;
      whole = whole;
      loads = found.loads;
      room = subst (λ (n : ℕ). SeesRoom C n end found.loads) admitted.tail_is
          (subst (λ (n : ℕ). SeesRoom C a.tail n found.loads) admitted.end found.looks);
      head = found.head;
      claim = claim;
      is_moved = record {
        type_id = told.type_id;
        some_len = told.len;
        same = same_span C tail (span told.len) (span len) (omega (arith, told_spans)) (omega (arith, spans))
            (ap (λ (n : ℕ). end_after C n (span told.len)) (sym seen) ∙ sym told.new_tail ∙ admitted.end);
        is = ap (λ (n : ℕ). moved_claim C n told.type_id told.len) seen;
      };
      view = told.view ∙ ap (λ (n : ℕ). with_claim claim n u) admitted.end
          ∙ ap (with_claim claim end) (found.view ∙ ap (λ (n : ℕ). looked found.loads n found.head v) at);
      behind = subst (λ (n : ℕ). EndBelow n v.producer.claims) at
          (subst (λ (x : View). EndBelow x.producer.seen_tail x.producer.claims) found.view told.behind);
    } in
    (subst (λ (n : ℕ). Moves C n type_id len [] v a w) (sym admitted.tail_is) moves, admitted.tail_is ∙ sym at)
