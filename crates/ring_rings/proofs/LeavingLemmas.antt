-- What a write or a refused try leaves of a producer's view.
use Rattle.std.proofs.Common.{Bool, ◌≡◌, ◌∙◌, ℕ, ℤ, List, [], ◌∷◌, ◌++◌, refl, ap, inl, inr, arith}
use Rattle.ring_words.specs.declared.fault.ClaimFault.{ClaimFault}
use Rattle.ring_table.specs.{declared.claim.StagedClaim.StagedClaim, declared.view.View.View, OpenClaims.open_count}
use Rattle.ring_table.specs.Views.{with_claim}
use Rattle.ring_rings.{specs.Claiming.Refuses, specs.Claiming.looked, proofs.CountLemmas.open_count-more}

-- shares and claims stay
pub record Keeps (v w : View) : Type 0 where
  pub shares : w.producer.shares ≡ v.producer.shares
  pub claims : w.producer.claims ≡ v.producer.claims

-- the shares stay, and one claim comes
pub record Gains (c : StagedClaim) (v w : View) : Type 0 where
  pub shares : w.producer.shares ≡ v.producer.shares
  pub claims : w.producer.claims ≡ v.producer.claims ++ c ∷ []

-- a view with the same shares and claims
pub keeps_as : (v u w : View) → w ≡ u → u.producer.shares ≡ v.producer.shares → u.producer.claims ≡ v.producer.claims
    → Keeps v w
keeps_as v u w is shares claims = record {
  shares = ap (λ (x : View). x.producer.shares) is
      ∙ shares;
  claims = ap (λ (x : View). x.producer.claims) is ∙ claims;
}

pub keeps_looked : (loads : List (ℕ × ℕ)) (tail head : ℕ) (v w : View) → w ≡ looked loads tail head v → Keeps v w
keeps_looked loads tail head v w is = keeps_as v (looked loads tail head v) w is refl refl

pub gains_looked : (c : StagedClaim) (end : ℕ) (loads : List (ℕ × ℕ)) (tail head : ℕ) (v w : View)
    → w ≡ with_claim c end (looked loads tail head v) → Gains c v w
gains_looked c end loads tail head v w is =
    record { shares = ap (λ (u : View). u.producer.shares) is; claims = ap (λ (u : View). u.producer.claims) is }

-- Refused ------------------------------------------------------------------------

pub keeps_refused : (many : Bool) (C : ℕ) (type_id : ℤ) (len : ℕ) (v : View) (fault : ClaimFault) (w : View)
    → Refuses many C type_id len v fault w → Keeps v w
keeps_refused many C type_id len v fault w (inl at_once) = keeps_as v v w at_once.1 refl refl
keeps_refused many C type_id len v fault w (inr (inl limit)) = keeps_looked _ _ _ v w limit.view
keeps_refused many C type_id len v fault w (inr (inr full)) = keeps_looked _ _ _ v w full.view

-- Written ------------------------------------------------------------------------

-- the shares stay, and the number of open claims
pub record AsManyOpen (v w : View) : Type 0 where
  pub shares : w.producer.shares ≡ v.producer.shares
  pub open_claims : open_count w.producer.claims ≡ open_count v.producer.claims

pub as_many : (v w : View) → Keeps v w → AsManyOpen v w
as_many v w kept = record { shares = kept.shares; open_claims = ap open_count kept.claims }

-- the claim that comes is not open
pub as_many_open : (v w : View) (c : StagedClaim) → open_count (c ∷ []) ≡ 0 → Gains c v w → AsManyOpen v w
as_many_open v w c settled gained =
    let counted = ap open_count gained.claims ∙ open_count-more v.producer.claims c in
    record { shares = gained.shares; open_claims = omega (arith, counted, settled) }
