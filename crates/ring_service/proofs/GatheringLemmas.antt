-- Two producers put together: their shares, their open claims and their claims.
use Rattle.std.proofs.Common.{◌≡◌, ◌∙◌, ℕ, suc, ◌+◌, List, [], ◌∷◌, length, refl, ap, inl, inr, lt-ltb, le-ltb, arith, cond}
use Rattle.std.proofs.lemmas.Bool.{cases_lt}
use Rattle.ring_table.specs.{declared.claim.StagedClaim.StagedClaim, declared.view.View.View, OpenClaims.open_count}
use Rattle.ring_table.{specs.Owners.insert_claim, specs.Owners.interleaved, proofs.LawLemmas.open_count-interleaved}
use Rattle.ring_rings.specs.Joining.{Joins}

length-insert : (c : StagedClaim) (cs : List StagedClaim) → length (insert_claim c cs) ≡ suc (length cs)
length-insert c [] = refl
length-insert c (d ∷ ds) =
    elim (cases_lt c.place d.place) as (λ _. length (insert_claim c (d ∷ ds)) ≡ suc (suc (length ds))) [
      | inl before ↦ ap (λ b. length (cond b (c ∷ d ∷ ds) (d ∷ insert_claim c ds))) (lt-ltb c.place d.place before)
      | inr behind ↦ ap (λ b. length (cond b (c ∷ d ∷ ds) (d ∷ insert_claim c ds))) (le-ltb c.place d.place behind)
          ∙ ap suc (length-insert c ds)
    ]

length-interleaved : (xs ys : List StagedClaim) → length (interleaved xs ys) ≡ length xs + length ys
length-interleaved xs [] = let n : ℕ = length xs in let done : n ≡ n + 0 = omega arith in done
length-interleaved xs (y ∷ ys) =
    let both : ℕ = length (interleaved xs ys) in
    let deeper : both ≡ length xs + length ys = length-interleaved xs ys in
    length-insert y (interleaved xs ys) ∙ (omega arith)

-- u has the shares, the open claims and the claims of v and w
pub record Gathers (v w u : View) : Type 0 where
  pub shares : u.producer.shares ≡ v.producer.shares + w.producer.shares
  pub open_claims : open_count u.producer.claims ≡ open_count v.producer.claims + open_count w.producer.claims
  pub claims : length u.producer.claims ≡ length v.producer.claims + length w.producer.claims
  pub together : u.producer.claims ≡ interleaved v.producer.claims w.producer.claims

pub gathered : (C : ℕ) (v w u : View) → Joins C v w u → Gathers v w u
gathered C v w u h =
    let claims : u.producer.claims ≡ interleaved v.producer.claims w.producer.claims =
    ap (λ (z : View). z.producer.claims) h.view in
    record {
      shares = ap (λ (z : View). z.producer.shares) h.view;
      open_claims = ap open_count claims ∙ open_count-interleaved v.producer.claims w.producer.claims;
      claims = ap length claims ∙ length-interleaved v.producer.claims w.producer.claims;
      together = claims;
    }
