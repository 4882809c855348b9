-- Claims of several clients, put together by rising place: each client's stay in their order.
use Rattle.std.proofs.Common.{◌≡◌, ◌⊎◌, ◌<◌, ◌≤◌, List, [], ◌∷◌, Bool, true, false, if◌then◌else◌, inl, inr, refl, subst, arith, nat_lt, ltb-false}
use Rattle.ring_table.specs.{declared.claim.StagedClaim.StagedClaim, Owners.insert_claim, Owners.interleaved}
use Rattle.ring_table.specs.Staged.{AreAbove, AreRising}

-- the third list has those of the first and of the second, each in their order
abbrev pub IsMerged : List StagedClaim → List StagedClaim → List StagedClaim → Type 0
IsMerged xs ys [] = (xs ≡ []) × (ys ≡ [])
IsMerged xs ys (z ∷ zs) = ((rest : List StagedClaim) × (xs ≡ z ∷ rest) × IsMerged rest ys zs)
    ⊎ ((rest : List StagedClaim) × (ys ≡ z ∷ rest) × IsMerged xs rest zs)

alone : (xs : List StagedClaim) → IsMerged xs [] xs
alone [] = (refl, refl)
alone (x ∷ xs) = inl (xs, refl, alone xs)

-- a claim before all of the second list
inserted : (y : StagedClaim) (xs ys zs : List StagedClaim) → AreAbove y.place ys → IsMerged xs ys zs
    → IsMerged xs (y ∷ ys) (insert_claim y zs)
inserted y xs ys [] above h = inr (ys, refl, (h.0, h.1))
inserted y xs ys (z ∷ zs) above h =
    by (nat_lt y.place z.place) (ltb-false y.place z.place) (λ rest. inserted y rest ys zs above) h
  where
    first : (rest : List StagedClaim) → AreAbove y.place (z ∷ rest) → y.place < z.place
    first rest a = a.0

    by : (b : Bool) → (b ≡ false → z.place ≤ y.place)
        → ((rest : List StagedClaim) → IsMerged rest ys zs → IsMerged rest (y ∷ ys) (insert_claim y zs))
        → IsMerged xs ys (z ∷ zs) → IsMerged xs (y ∷ ys) (if b then y ∷ z ∷ zs else z ∷ insert_claim y zs)
    by true behind deeper h = inr (ys, refl, h)
    by false behind deeper (inl h) = inl (h.0, h.1, deeper h.0 h.2)
    by false behind deeper (inr h) =
        let less = first h.0 (subst (AreAbove y.place) h.1 above) in
        let more = behind refl in
        absurd (omega arith)

pub merged : (xs ys : List StagedClaim) → AreRising ys → IsMerged xs ys (interleaved xs ys)
merged xs [] rising = alone xs
merged xs (y ∷ ys) rising = inserted y xs ys (interleaved xs ys) rising.0 (merged xs ys rising.1)
