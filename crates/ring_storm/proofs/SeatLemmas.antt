-- What a client's calls keep of its producer: claims whose places rise, its draws, and the producers joined into it.
use Rattle.std.proofs.Common.{true, ◌≡◌, ◌∙◌, ℕ, zero, suc, ◌≤◌, ℤ, List, [], ◌∷◌, ◌++◌, length, Result, Ok, Err, IfErr, OnOk, inl, inr, sym, ap, subst, arith}
use Rattle.std.proofs.Math.{Option.some-injective, Option.some-ne-none, ListN.get_elem?}
use Rattle.ring_layout.{specs.History.span, proofs.PlaceLemmas.next_le}
use Rattle.ring_table.specs.{declared.claim.StagedClaim.StagedClaim, Staged.AreRising, Staged.claim_end}
use Rattle.ring_table.specs.declared.view.{ProducerView.ProducerView, Service.Service, View.View}
use Rattle.ring_table.specs.{ProducerSteps.EndBelow, Services.once_below, Services.times, Services.times_drawn}
use Rattle.ring_rings.specs.Claiming.{Contends, RefusesTry, Writes, record_behind}
use Rattle.ring_rings.specs.declared.fault.TryFault.{TryFault, TheVariants.Refused, TheVariants.Contended}
use Rattle.ring_rings.{specs.Joining.Joins, proofs.RisingLemmas.rising_more}
use Rattle.ring_service.specs.declared.client.SendFault.{SendFault}
use Rattle.ring_service.specs.declared.client.SendFault.TheVariants as fault
use Rattle.ring_service.specs.Asking.{drawn_in, IsSendable, RefusesAs, SendsAs}
use Rattle.ring_protocol.specs.Command.{LentRequest as Request, asked, spelling_of, type_id_of}

-- the places of the claims rise, and they end at or below the greatest end seen
abbrev pub Risen : View → Type 0
Risen v = AreRising v.producer.claims × EndBelow v.producer.seen_tail v.producer.claims

-- what a try leaves
pub record Leaves (v w : View) : Type 0 where
  pub risen : Risen v → Risen w
  pub service : w.producer.service ≡ v.producer.service
  pub joined : w.producer.joined ≡ v.producer.joined

-- only what was seen is another
looks : (v w : View) → w.producer.claims ≡ v.producer.claims → v.producer.seen_tail ≤ w.producer.seen_tail
    → w.producer.service ≡ v.producer.service → w.producer.joined ≡ v.producer.joined → Leaves v w
looks v w claims later service joined = record {
  risen = λ old. (
    subst AreRising (sym claims) old.0,
    λ k c is. let below = old.1 k c (sym (ap (λ l. get_elem? l k) claims) ∙ is) in omega arith,
  );
  service = service;
  joined = joined;
}

same : (v w : View) → w ≡ v → Leaves v w
same v w e =
    let seen = ap (λ (u : View). u.producer.seen_tail) e in
    looks v w (ap (λ (u : View). u.producer.claims) e) (omega arith) (ap (λ (u : View). u.producer.service) e)
    (ap (λ (u : View). u.producer.joined) e)

end_behind : (n : ℕ) (cs : List StagedClaim) (c : StagedClaim) → EndBelow n cs → n ≤ claim_end c
    → EndBelow (claim_end c) (cs ++ c ∷ [])
end_behind n [] c below le zero d is =
    let here : claim_end c ≡ claim_end d = ap claim_end (some-injective c d is) in
    omega arith
end_behind n [] c below le (suc k) d is = absurd (some-ne-none d (sym is))
end_behind n (b ∷ cs) c below le zero d is = let here = below 0 d is in omega arith
end_behind n (b ∷ cs) c below le (suc k) d is = end_behind n cs c (λ i. below (suc i)) le k d is

written : (C : ℕ) (type_id : ℤ) (body : List ℕ) (v w : View) → Writes true C type_id body v w → Leaves v w
written C type_id body v w h =
    let c = record_behind C h.tail type_id body in
    let claims : w.producer.claims ≡ v.producer.claims ++ c ∷ [] = ap (λ (u : View). u.producer.claims) h.view in
    let tail : w.producer.seen_tail ≡ claim_end c = ap (λ (u : View). u.producer.seen_tail) h.view in
    let place = next_le C h.tail (span (length body)) in
    let later = h.sees in
    record {
      risen = λ old. (
        subst AreRising (sym claims) (rising_more v.producer.seen_tail v.producer.claims c old.0 old.1 (omega arith)),
        subst (λ n. EndBelow n w.producer.claims) (sym tail)
            (subst (EndBelow (claim_end c)) (sym claims)
            (end_behind v.producer.seen_tail v.producer.claims c old.1 (omega arith))),
      );
      service = ap (λ (u : View). u.producer.service) h.view;
      joined = ap (λ (u : View). u.producer.joined) h.view;
    }

-- a tail was loaded that is not below the one seen before
seen_later : (C : ℕ) (type_id : ℤ) (len : ℕ) (v : View) (tail seen : ℕ) (w : View)
    → Contends C type_id len v tail seen w → v.producer.seen_tail ≤ w.producer.seen_tail
seen_later C type_id len v tail seen w h =
    let is = ap (λ (u : View). u.producer.seen_tail) h.view in
    let later = h.later in
    let greater = h.greater in
    elim h.found as (λ _. v.producer.seen_tail ≤ w.producer.seen_tail) [
      | inl beyond ↦ let it = beyond.same in omega arith
      | inr over ↦ let it = over.same in omega arith
    ]

refused : (C : ℕ) (type_id : ℤ) (len : ℕ) (v : View) (f : TryFault) (w : View) → RefusesTry true C type_id len v f w
    → Leaves v w
refused C type_id len v (Refused f) w (inl h) = same v w h.1
refused C type_id len v (Refused f) w (inr (inl h)) =
    let seen = ap (λ (u : View). u.producer.seen_tail) h.view in
    let later = h.sees in
    looks v w (ap (λ (u : View). u.producer.claims) h.view) (omega arith) (ap (λ (u : View). u.producer.service) h.view)
    (ap (λ (u : View). u.producer.joined) h.view)
refused C type_id len v (Refused f) w (inr (inr h)) =
    let seen = ap (λ (u : View). u.producer.seen_tail) h.view in
    let later = h.sees in
    looks v w (ap (λ (u : View). u.producer.claims) h.view) (omega arith) (ap (λ (u : View). u.producer.service) h.view)
    (ap (λ (u : View). u.producer.joined) h.view)
refused C type_id len v (Contended tail seen) w h =
    looks v w (ap (λ (u : View). u.producer.claims) h.view) (seen_later C type_id len v tail seen w h)
    (ap (λ (u : View). u.producer.service) h.view) (ap (λ (u : View). u.producer.joined) h.view)

-- after one try to send, whatever came of it
pub leaves : {T : Type 0} (C id : ℕ) (r : Request) (v w : View) (result : Result T SendFault)
    → OnOk result (IsSendable r × SendsAs (Writes true) C id r v w) → IfErr result (λ f. RefusesAs (RefusesTry true) C id r v f w)
    → Leaves v w
leaves C id r v w (Ok done) sent not_sent =
    written C (type_id_of (asked r id)) (spelling_of (asked r id)) v w sent.1
leaves C id r v w (Err fault.TooLong) sent not_sent = same v w not_sent.1
leaves C id r v w (Err (fault.Refused correlation reason)) sent not_sent =
    refused C (type_id_of (asked r id)) (length (spelling_of (asked r id))) v reason w not_sent.2

-- a producer that joined none goes into another: its service comes after the others
pub joins_service : (C : ℕ) (v w u : View) → Joins C v w u → w.producer.joined ≡ []
    → u.producer.joined ≡ v.producer.joined ++ w.producer.service ∷ []
joins_service C v w u h none =
    ap (λ (z : View). z.producer.joined) h.view
    ∙ ap (λ (l : List Service). v.producer.joined ++ w.producer.service ∷ l) none

-- if a producer drew nothing itself, each number was drawn once by those that were joined into it
pub drawn_once : (p : ProducerView) (n : ℕ) → p.service.draws ≡ [] → ((x : ℕ) → times_drawn x p ≡ once_below x n)
    → (x : ℕ) → drawn_in x p.joined ≡ once_below x n
drawn_once p n none once x = let own = ap (times x) none in let all = once x in omega arith
