-- Two producers put together.
use Rattle.std.proofs.Common.{◌≡◌, ℕ, suc, ◌+◌, ◌^◌, ◌<◌, ◌≤◌, List, [], ◌∷◌, length, refl, sym, ap, ◌∙◌, subst, arith}
use Rattle.ring_table.specs.{declared.claim.StagedClaim.StagedClaim, declared.view.View.View, Views.with_producer_of}
use Rattle.ring_table.specs.{Staged.AreRising, Staged.AreStored, Staged.claim_end, OpenClaims.open_count}
use Rattle.ring_table.specs.{Owners.interleaved, ProducerSteps.EndBelow, ProducerSteps.LoadsTail}
use Rattle.ring_table.proofs.LawLemmas.{open_count-interleaved}
use Rattle.ring_rings.{specs.Matching.Matches, proofs.CountLemmas.open_few, proofs.CountLemmas.stored_interleaved}

-- claims that rise and end below a position are not more than that
few_below : (n : ℕ) (c : StagedClaim) (cs : List StagedClaim) → AreRising (c ∷ cs) → EndBelow n (c ∷ cs)
    → c.place + length (c ∷ cs) ≤ n
few_below n c [] rising ends = let first : claim_end c ≤ n = ends 0 c refl in omega arith
few_below n c (d ∷ ds) rising ends =
    let above = rising.0.0 in
    let deeper = few_below n d ds rising.1 (λ k. ends (suc k)) in
    omega arith

pub length_below : (n : ℕ) (cs : List StagedClaim) → AreRising cs → EndBelow n cs → length cs ≤ n
length_below n [] rising ends = omega arith
length_below n (c ∷ cs) rising ends = let few = few_below n c cs rising ends in omega arith

-- v and w are put together to u, and a load of the tail n makes that u2
module _ (C n : ℕ) (v w u u2 : View) (both : u ≡ with_producer_of v w) (loaded : LoadsTail C u n u2) where
  claims_are : u.producer.claims ≡ interleaved v.producer.claims w.producer.claims
  claims_are = ap (λ (z : View). z.producer.claims) both

  pub joined_claims : u2.producer.claims ≡ interleaved v.producer.claims w.producer.claims
  joined_claims = ap (λ (z : View). z.producer.claims) loaded.view ∙ claims_are

  module _ (shares open_claims own_tail other_shares other_open other_tail : ℕ)
      (known : Matches v shares open_claims own_tail) (other : Matches w other_shares other_open other_tail) where
    open_are : open_count u.producer.claims ≡ open_claims + other_open
    open_are =
        let a = known.counted in
        let b = other.counted in
        let sum = open_count-interleaved v.producer.claims w.producer.claims in
        ap open_count claims_are ∙ (omega arith)

    pub joined_few : open_claims + other_open < 2 ^ 64
    joined_few =
        let sum = open_are in
        let least = open_few u.producer.claims in
        let few = length_below n u.producer.claims loaded.rising loaded.behind in
        let limit = loaded.position.limit in
        omega arith

    pub joined_matches : Matches u2 (shares + other_shares) (open_claims + other_open) n
    joined_matches =
        let a = known.shares_are in
        let b = other.shares_are in
        let some = known.some in
        let shares_of : u.producer.shares ≡ v.producer.shares + w.producer.shares =
        ap (λ (z : View). z.producer.shares) both in
        let same : u2.producer.shares ≡ u.producer.shares = ap (λ (z : View). z.producer.shares) loaded.view in
        let claims : u2.producer.claims ≡ u.producer.claims = ap (λ (z : View). z.producer.claims) loaded.view in
        let most = loaded.shares in
        record {
          shares_are = omega arith;
          some = omega arith;
          most = omega arith;
          counted = ap open_count claims ∙ open_are;
          rising = subst AreRising (sym claims) loaded.rising;
          stored = subst AreStored (sym (claims ∙ claims_are))
              (stored_interleaved v.producer.claims w.producer.claims known.stored other.stored);
          own = λ all. ap (λ (z : View). z.producer.seen_tail) loaded.view;
          whole = loaded.position.aligned;
          limit = loaded.position.limit;
        }
