-- What follows from a run that was written.
use Rattle.std.proofs.Common.{◌≡◌, ℕ, zero, suc, ◌+◌, ◌-◌, ◌%◌, ◌≤◌, ◌<◌, pos, List, [], ◌∷◌, ◌++◌, Bool, true, false, length, append-nil, append_assoc, sym, ap, ◌∙◌, subst, inl, inr, arith, eq-eqb}
use Rattle.std.proofs.Math.{Option.some-injective, Option.some-ne-none, ListN.get_elem?}
use Rattle.atomic_table.proofs.Lists.{at_longer}
use Rattle.ring_layout.specs.{declared.admission.Admission.Admission, History.span, Places.next_place}
use Rattle.ring_layout.specs.declared.message.{ClaimState.TheVariants.Committed, Message.Message}
use Rattle.ring_layout.proofs.PlaceLemmas.{next_cases}
use Rattle.ring_table.specs.declared.{claim.StagedClaim.StagedClaim, claim.Stage.TheVariants.Stored, view.View.View}
use Rattle.ring_table.specs.{Changes.fresh_stage, ProducerSteps.EndBelow, ProducerSteps.HasNewestAt, RunBodies.NeedsRun}
use Rattle.ring_table.specs.{OpenClaims.open_count, Staged.claim_end, Staged.AreRising, Staged.AreStored}
use Rattle.ring_table.specs.{Runs.run_claims, Views.with_claims}
use Rattle.ring_rings.specs.{Making.KnowsTail, Making.Moves, Matching.Matches, Seats.KeepsOpen}
use Rattle.ring_rings.proofs.{CountLemmas.open_count-more, CountLemmas.stored_more, RisingLemmas.rising_more}
use Rattle.ring_rings.proofs.MadeLemmas.{moved_newest, still_open}

-- ---- the claims of a run come after others

end_more : (tail next : ℕ) (cs : List StagedClaim) (c : StagedClaim) → EndBelow tail cs → tail ≤ next → claim_end c ≤ next
    → EndBelow next (cs ++ c ∷ [])
end_more tail next [] c ends le here zero d e = subst (λ z. claim_end z ≤ next) (some-injective c d e) here
end_more tail next [] c ends le here (suc k) d e = absurd (some-ne-none d (sym e))
end_more tail next (x ∷ cs) c ends le here zero d e = let low = ends 0 d e in omega arith
end_more tail next (x ∷ cs) c ends le here (suc k) d e = end_more tail next cs c (λ j. ends (suc j)) le here k d e

pub rising_run : (p : ℕ) (ms : List Message) (cs : List StagedClaim) → AreRising cs → EndBelow p cs
    → AreRising (cs ++ run_claims p ms)
rising_run p [] cs rising ends = subst AreRising (sym (append-nil cs)) rising
rising_run p (m ∷ ms) cs rising ends =
    let c : StagedClaim = record { from = p; place = p; message = m; stage = Stored Committed } in
    let next : ℕ = p + span (length m.body) in
    subst AreRising (append_assoc cs (c ∷ []) (run_claims next ms))
    (rising_run next ms (cs ++ c ∷ []) (rising_more p cs c rising ends (omega arith))
    (end_more p next cs c ends (omega arith) (omega arith)))

pub stored_run : (p : ℕ) (ms : List Message) (cs : List StagedClaim) → AreStored cs → AreStored (cs ++ run_claims p ms)
stored_run p [] cs stored = subst AreStored (sym (append-nil cs)) stored
stored_run p (m ∷ ms) cs stored =
    let c : StagedClaim = record { from = p; place = p; message = m; stage = Stored Committed } in
    let next : ℕ = p + span (length m.body) in
    subst AreStored (append_assoc cs (c ∷ []) (run_claims next ms))
    (stored_run next ms (cs ++ c ∷ []) (stored_more cs c stored tt))

pub open_run : (p : ℕ) (ms : List Message) (cs : List StagedClaim) → open_count (cs ++ run_claims p ms) ≡ open_count cs
open_run p [] cs = ap open_count (append-nil cs)
open_run p (m ∷ ms) cs =
    let c : StagedClaim = record { from = p; place = p; message = m; stage = Stored Committed } in
    let next : ℕ = p + span (length m.body) in
    let more = open_count-more cs c in
    let rest = open_run next ms (cs ++ c ∷ []) in
    ap open_count (sym (append_assoc cs (c ∷ []) (run_claims next ms))) ∙ rest ∙ more ∙ omega arith

pub keeps_run : {C : ℕ} {v w : View} (more : List StagedClaim) → w.producer.claims ≡ v.producer.claims ++ more
    → KeepsOpen C v w
keeps_run {C} {v} {w} more is t h =
    let c = h.claim in
    still_open h (record {
      nth = c.nth;
      claim = c.claim;
      there = ap (λ l. get_elem? l c.nth) is ∙ at_longer v.producer.claims more c.nth c.claim c.there;
      at_place = c.at_place;
      holds = c.holds;
    })

-- ---- the claim of a run

pub tail_place : (C tail a : ℕ) → 0 < C → tail % C + a ≤ C → next_place C tail a ≡ tail
tail_place C tail a positive inside = elim (next_cases C tail a) as (λ _. next_place C tail a ≡ tail) [
  | inl h ↦ h.1
  | inr h ↦ let full = h.0 in absurd (omega arith)
]

-- what was known of the view before it is known of it once the producer knows the tail
pub knows_claims : (many : Bool) (C tail : ℕ) (v w : View) → KnowsTail many C v tail w → w.producer.claims ≡ v.producer.claims
knows_claims true C tail v w k = ap (λ (u : View). u.producer.claims) k.view
knows_claims false C tail v w k = ap (λ (u : View). u.producer.claims) k.0

pub knows_shares : (many : Bool) (C tail : ℕ) (v w : View) → KnowsTail many C v tail w → w.producer.shares ≡ v.producer.shares
knows_shares true C tail v w k = ap (λ (u : View). u.producer.shares) k.view
knows_shares false C tail v w k = ap (λ (u : View). u.producer.shares) k.0

pub knows_consumes : (many : Bool) (C tail : ℕ) (v w : View) → KnowsTail many C v tail w → w.consumes ≡ v.consumes
knows_consumes true C tail v w k = ap (λ (u : View). u.consumes) k.view
knows_consumes false C tail v w k = ap (λ (u : View). u.consumes) k.0

module _ {C tail bytes : ℕ} {front : List (ℕ × ℕ)} {v : View} {a : Admission} {w : View}
    (m : Moves C a.tail (pos 1) (bytes - 8) front v a w) (positive : 0 < C) (at_tail : a.tail ≡ tail) (whole : bytes % 8 ≡ 0)
    (least : 8 ≤ bytes) (inside : tail % C + bytes ≤ C) where
  run_place : a.place ≡ tail
  run_place =
      let size : span (bytes - 8) ≡ bytes = omega arith in
      m.admitted.place ∙ (λ i. next_place C (at_tail i) (size i)) ∙ tail_place C tail bytes positive inside

  pub run_newest : HasNewestAt w tail (NeedsRun bytes)
  run_newest =
      let n = moved_newest m in
      let place = run_place in
      let size : span (bytes - 8) ≡ bytes = omega arith in
      record {
        others = v.producer.claims;
        claim = m.claim;
        claims_are = n.claims;
        at_place = n.place_is ∙ place;
        holds = record {
          stage = n.stage_is ∙ ap fresh_stage (eq-eqb a.tail a.place (at_tail ∙ sym place));
          plain = n.from_is ∙ at_tail ∙ sym place ∙ sym n.place_is;
          span_is = sym n.span_is ∙ size;
        };
      }

  -- and what the producer keeps once the run is written
  module _ (ms : List Message) (u : View)
      (written : (cs : List StagedClaim) (c : StagedClaim) → w.producer.claims ≡ cs ++ c ∷ []
      → u ≡ with_claims (cs ++ run_claims tail ms) w) where
    pub run_view : u ≡ with_claims (v.producer.claims ++ run_claims tail ms) w
    run_view = written v.producer.claims m.claim (moved_newest m).claims

    pub run_kept : u.producer.claims ≡ v.producer.claims ++ run_claims tail ms
    run_kept = ap (λ (z : View). z.producer.claims) run_view

    pub run_shares : u.producer.shares ≡ v.producer.shares
    run_shares = ap (λ (z : View). z.producer.shares) run_view ∙ ap (λ (z : View). z.producer.shares) m.view

    pub run_consumes : u.consumes ≡ v.consumes
    run_consumes = ap (λ (z : View). z.consumes) run_view ∙ ap (λ (z : View). z.consumes) m.view

    pub run_matches : (old : View) {shares open_claims own_tail : ℕ} → old.producer.claims ≡ v.producer.claims
        → old.producer.shares ≡ v.producer.shares → Matches old shares open_claims own_tail
        → Matches u shares open_claims a.end
    run_matches old same held known =
        let end = m.admitted.end in
        let limit = m.admitted.limit in
        record {
          shares_are = run_shares ∙ sym held ∙ known.shares_are;
          some = known.some;
          most = known.most;
          counted = ap open_count run_kept ∙ open_run tail ms v.producer.claims ∙ ap open_count (sym same) ∙ known.counted;
          rising = subst AreRising (sym run_kept) (rising_run tail ms v.producer.claims (subst AreRising same known.rising)
              (subst (λ t. EndBelow t v.producer.claims) at_tail m.behind));
          stored = subst AreStored (sym run_kept)
              (stored_run tail ms v.producer.claims (subst AreStored same known.stored));
          own = λ all. ap (λ (z : View). z.producer.seen_tail) run_view ∙ ap (λ (z : View). z.producer.seen_tail) m.view
              ∙ sym end;
          whole = m.whole;
          limit = rw end limit;
        }
